-- Why the search for a cover is exact: it may take the groups in any order, branch on any uncovered variable, pass over edges that
-- cannot be part of a cover, and of two edges that leave the same or more keep one.
use mathlib.Core.Path.{◌≡◌, refl, sym, ap, ◌∙◌}
use mathlib.Core.Bool.{Bool, true, false, not, ◌&&◌, ◌||◌, true≢false}
use mathlib.Core.List.{List, [], ◌∷◌, ◌++◌}
use Prim.Native.Nat.{ℕ, ◌+◌, ◌≤◌}
use native.Mathlib.Omega.{arith}
use lib.Bits.{bit_and, and_zero_l, and_le_r, and_self}
use lib.Count.{ones, ones_in}
use borrow.Author.Tests.{eqb-true, eq-eqb, le-leb}
use Rattle.model.specs.Basic.{every, exists, keep, sum}
use Rattle.model.proofs.Tests.{or_same, or_none_left, or_none_right, exists_intro, exists_elim, exists_ext}
use Rattle.model.proofs.Lists.{keep_out, sum_append}
use Rattle.judge_cover.specs.Cover.{coverable, within, useful}
use Rattle.judge_cover.specs.Steps.{CoversAtMost}
use Rattle.judge_cover.proofs.BitLaws.{and_assoc, and_swap, parts_cover_less}

-- `exists` in another order, beside a constant, and over what is kept
exists_or : {A : Type 0} (f g : A → Bool) (l : List A) → exists (λ x. f x || g x) l ≡ (exists f l || exists g l)
unfolding exists
exists_or f g [] = refl
exists_or f g (x ∷ l) = ap (λ b. (f x || g x) || b) (exists_or f g l) ∙ turn (f x) (g x) (exists f l) (exists g l)
  where
    turn : (a b c d : Bool) → ((a || b) || (c || d)) ≡ ((a || c) || (b || d))
    turn true b c d = refl
    turn false true true d = refl
    turn false true false d = refl
    turn false false c d = refl

pub exists_none : {A : Type 0} (l : List A) → exists (λ x. false) l ≡ false
unfolding exists
exists_none [] = refl
exists_none (x ∷ l) = exists_none l

pub exists_swap : {A B : Type 0} (f : A → B → Bool) (k : List A) (l : List B) → exists (λ x. exists (f x) l) k ≡ exists (λ y. exists (λ x. f x y) k) l
unfolding exists
exists_swap f [] l = sym (exists_none l)
exists_swap f (x ∷ k) l = ap (λ b. exists (f x) l || b) (exists_swap f k l) ∙ sym (exists_or (f x) (λ y. exists (λ z. f z y) k) l)

pub exists_keep : {A : Type 0} (f p : A → Bool) (l : List A) → exists f (keep p l) ≡ exists (λ x. p x && f x) l
unfolding exists keep
exists_keep f p [] = refl
exists_keep {A} f p (x ∷ l) = go (p x) (exists_keep f p l)
  where
    go : (b : Bool) → exists f (keep p l) ≡ exists (λ y. p y && f y) l
        → exists f (elim b as (λ c. List A) [ true ↦ x ∷ keep p l | false ↦ keep p l ]) ≡ ((b && f x) || exists (λ y. p y && f y) l)
    go true e = ap (λ b. f x || b) e
    go false e = e

and_known : (a b : Bool) → (b ≡ true → a ≡ true) → (a && b) ≡ b
and_known true b h = refl
and_known false true h = h refl
and_known false false h = refl

-- Any group may be the first.
pub front : (xs : List (List ℕ)) (g : List ℕ) (ys : List (List ℕ)) (u : ℕ) → coverable (xs ++ g ∷ ys) u ≡ exists (λ r. coverable (xs ++ ys) (bit_and u r)) g
unfolding coverable
front [] g ys u = refl
front (x ∷ xs) g ys u =
    exists_ext _ _ x (λ s i. front xs g ys (bit_and u s))
    ∙ exists_swap (λ s r. coverable (xs ++ ys) (bit_and (bit_and u s) r)) x g
    ∙ exists_ext _ _ g (λ r i. exists_ext _ _ x (λ s j. ap (coverable (xs ++ ys)) (and_swap u s r)))

-- Edges that have all been tried without success may be dropped.
kept_tries : (a b : Bool) → (not a && b) ≡ false → (a && b) ≡ b
kept_tries true b h = refl
kept_tries false b h = sym h

pub exists_dropped : (f p : ℕ → Bool) (g : List ℕ) → exists (λ r. not (p r) && f r) g ≡ false → exists f (keep p g) ≡ exists f g
unfolding exists
exists_dropped f p g h = exists_keep f p g ∙ go g h
  where
    go : (g : List ℕ) → exists (λ r. not (p r) && f r) g ≡ false → exists (λ r. p r && f r) g ≡ exists f g
    go [] h = refl
    go (r ∷ g) h =
        or_same (kept_tries (p r) (f r) (or_none_left (not (p r) && f r) _ h)) (go g (or_none_right (not (p r) && f r) _ h))

-- A group with no edge covers nothing; where nothing is left to cover, an edge in each group is enough.
abbrev pub filled : List ℕ → Bool
filled g = exists (λ r. true) g

exists_const : (b : Bool) (g : List ℕ) → exists (λ r. b) g ≡ (filled g && b)
unfolding exists
exists_const b [] = refl
exists_const true (r ∷ g) = refl
exists_const false (r ∷ g) = exists_none g

pub nothing_left : (gs : List (List ℕ)) → coverable gs 0 ≡ every filled gs
unfolding coverable every
nothing_left [] = refl
nothing_left (g ∷ gs) =
    exists_ext _ _ g (λ r i. ap (coverable gs) (and_zero_l r) ∙ nothing_left gs) ∙ exists_const (every filled gs) g

pub one_empty : (gs : List (List ℕ)) (u : ℕ) → every filled gs ≡ false → coverable gs u ≡ false
unfolding coverable every exists
one_empty [] u h = absurd (true≢false h)
one_empty ([] ∷ gs) u h = refl
one_empty ((r ∷ g) ∷ gs) u h = exists_ext _ _ (r ∷ g) (λ s i. one_empty gs (bit_and u s) h) ∙ exists_none (r ∷ g)

-- What covers a set covers every part of it.
pub within_is : (w u : ℕ) → within w u ≡ true → bit_and w u ≡ w
unfolding within
within_is w u h = eqb-true (bit_and w u) w h

pub is_within : (w u : ℕ) → bit_and w u ≡ w → within w u ≡ true
unfolding within
is_within w u h = eq-eqb (bit_and w u) w h

within_and : (w u r : ℕ) → bit_and w u ≡ w → bit_and (bit_and w r) (bit_and u r) ≡ bit_and w r
within_and w u r h =
    sym (and_assoc (bit_and w r) u r) ∙ ap (λ x. bit_and x r) (and_swap w r u ∙ ap (λ x. bit_and x r) h)
    ∙ and_assoc w r r ∙ ap (bit_and w) (and_self r)

pub coverable_falls : (gs : List (List ℕ)) (w u : ℕ) → bit_and w u ≡ w → coverable gs u ≡ true → coverable gs w ≡ true
unfolding coverable
coverable_falls [] w u i h =
    let z = eqb-true u 0 h in
    eq-eqb w 0 (let l = and_le_r w u in omega (arith, i))
coverable_falls (g ∷ gs) w u i h =
    let e = exists_elim _ g h in
    exists_intro _ e.1 (coverable_falls gs (bit_and w e.0) (bit_and u e.0) (within_and w u e.0 i) e.2)

-- A list of bounds, one for each group.
pub data Bounded (u : ℕ) : List (List ℕ) → List ℕ → Type 0 where
  none : Bounded u [] []
  one : {g : List ℕ} {b : ℕ} {gs : List (List ℕ)} {bs : List ℕ} → CoversAtMost u g b → Bounded u gs bs → Bounded u (g ∷ gs) (b ∷ bs)

pub above_part : (u r : ℕ) (g : List ℕ) (b : ℕ) → CoversAtMost u g b → CoversAtMost (bit_and u r) g b
above_part u r g b a s i = omega (arith, a s i, parts_cover_less u r s)

bounded_part : (u r : ℕ) {gs : List (List ℕ)} {bs : List ℕ} → Bounded u gs bs → Bounded (bit_and u r) gs bs
bounded_part u r none = none
bounded_part u r (one {g} {b} a rest) = one (above_part u r g b a) (bounded_part u r rest)

-- What groups cover is no more than the sum of their bounds.
pub bound : (gs : List (List ℕ)) (bs : List ℕ) (u : ℕ) → Bounded u gs bs → coverable gs u ≡ true → ones u ≤ sum bs
unfolding coverable sum ones ones_in
bound [] bs u x h = rw (eqb-true u 0 h) (omega arith)
bound (g ∷ gs) [] u x h = elim x [ ]
bound (g ∷ gs) (b ∷ bs) u (one a rest) h =
    let e = exists_elim _ g h in
    omega (arith, a e.0 e.1, bound gs bs (bit_and u e.0) (bounded_part u e.0 rest) e.2)

pub bounded_append : (u : ℕ) {gs hs : List (List ℕ)} {bs cs : List ℕ} → Bounded u gs bs → Bounded u hs cs → Bounded u (gs ++ hs) (bs ++ cs)
bounded_append u none y = y
bounded_append u (one a x) y = one a (bounded_append u x y)

pub above_kept : (u : ℕ) (p : ℕ → Bool) (g : List ℕ) (b : ℕ) → CoversAtMost u g b → CoversAtMost u (keep p g) b
above_kept u p g b a r i = a r (keep_out p g i).0

-- Where each group has a bound, edges of one that leave more than the others can cover may be dropped.
pub sift_one : (u : ℕ) {xs ys : List (List ℕ)} {cs bs : List ℕ} (g : List ℕ) (b total : ℕ) → Bounded u xs cs → Bounded u ys bs → total ≡ sum cs + (b + sum bs)
    → coverable (xs ++ keep (useful u total b) g ∷ ys) u ≡ coverable (xs ++ g ∷ ys) u
unfolding useful
sift_one u {xs} {ys} {cs} {bs} g b total x y e =
    front xs (keep (useful u total b) g) ys u
    ∙ exists_keep (λ r. coverable (xs ++ ys) (bit_and u r)) (useful u total b) g
    ∙ exists_ext _ _ g (λ r i. and_known _ _ (λ h.
    le-leb (ones (bit_and u r) + b) total (omega (arith, bound (xs ++ ys) (cs ++ bs) (bit_and u r) (bounded_part u r (bounded_append u x y)) h, sum_append cs bs))))
    ∙ sym (front xs g ys u)
