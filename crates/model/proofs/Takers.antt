-- The lists of takers that `moves` gives.
use mathlib.Core.Path.{◌≡◌, refl, sym, ap, subst}
use mathlib.Core.Bool.{Bool, true, false}
use mathlib.Core.List.Memᴰ
use mathlib.Core.List.{List, [], ◌∷◌, ◌++◌, map, Memᴰ}
use mathlib.Core.Logic.{◌⊎◌, inl, inr}
use Prim.Native.Nat.{ℕ, ◌+◌, ◌≤◌, ◌<◌}
use native.Mathlib.Omega.{arith}
use lib.ListN.{length, length-append}
use lib.Dec.{eqb}
use Rattle.model.specs.Composition.{Tree, par, syn, ini, leaf}
use Rattle.model.specs.Model.{Model, Edge, automaton, in_set}
use Rattle.model.specs.Rules.{Taker}
use Rattle.model.specs.Moves.{under, pairs, sides, alone, moves}
use Rattle.model.specs.Judge.{is_taker}
use Rattle.model.proofs.Tests.{eq_of, of_eq, exists_elim}
use Rattle.model.proofs.Lists.{keep_in, keep_out}
use Rattle.model.proofs.Numbered.{size, Numbered, Leaves, leaves_map, leaves_in}

-- the edges under an action
pub under_in : (a : ℕ) {e : Edge} {es : List Edge} → Memᴰ e es → e.action ≡ a → Memᴰ e (under a es)
unfolding under
under_in a h q = keep_in (λ (e : Edge). eqb e.action a) h (of_eq _ _ q)

pub under_out : (a : ℕ) {e : Edge} (es : List Edge) → Memᴰ e (under a es) → Memᴰ e es × (e.action ≡ a)
unfolding under
under_out a es h = let r = keep_out (λ (e : Edge). eqb e.action a) es h in (r.0, eq_of _ _ r.1)

-- the lists of takers
pub pairs_in : {x y : List Taker} {xs ys : List (List Taker)} → Memᴰ x xs → Memᴰ y ys → Memᴰ (x ++ y) (pairs xs ys)
unfolding pairs
pairs_in {y = y} (Memᴰ.head {x = w} p) h = Memᴰ.append_left _ (Memᴰ.cast (ap (λ (z : List Taker). z ++ y) p) (Memᴰ.map (λ z. w ++ z) h))
pairs_in {ys = ys} (Memᴰ.tail {x = w} k) h = Memᴰ.append_right (map (λ z. w ++ z) ys) (pairs_in k h)

-- z is one of xs followed by one of ys
pub record Pair (xs ys : List (List Taker)) (z : List Taker) : Type 0 where
  pub left : List Taker
  pub right : List Taker
  pub in_left : Memᴰ left xs
  pub in_right : Memᴰ right ys
  pub whole : z ≡ left ++ right

pairs_out : {z : List Taker} (xs ys : List (List Taker)) → Memᴰ z (pairs xs ys) → Pair xs ys z
unfolding pairs
pairs_out [] ys h = absurd (Memᴰ.not-nil h)
pairs_out {z} (x ∷ xs) ys h = go (λ k. pairs_out xs ys k) (Memᴰ.append_cases (map (λ y. x ++ y) ys) h)
  where
    go : (Memᴰ z (pairs xs ys) → Pair xs ys z) → Memᴰ z (map (λ y. x ++ y) ys) ⊎ Memᴰ z (pairs xs ys) → Pair (x ∷ xs) ys z
    go ih (inl k) =
        let r = Memᴰ.of_map (λ y. x ++ y) ys k in
        record { left = x; right = r.0; in_left = Memᴰ.head refl; in_right = r.1; whole = sym r.2 }
    go ih (inr k) =
        let r = ih k in
        record { left = r.left; right = r.right; in_left = Memᴰ.tail r.in_left; in_right = r.in_right; whole = r.whole }

-- which of the sides gave z: rule 3, rule 4 on the left, rule 4 on the right
pub data Sides (b e : Bool) (xs ys : List (List Taker)) (z : List Taker) : Type 0 where
  both : b ≡ true → e ≡ true → Pair xs ys z → Sides b e xs ys z
  left_one : e ≡ false → Memᴰ z xs → Sides b e xs ys z
  right_one : b ≡ false → Memᴰ z ys → Sides b e xs ys z

pub sides_out : (b e : Bool) {z : List Taker} (xs ys : List (List Taker)) → Memᴰ z (sides b e xs ys) → Sides b e xs ys z
unfolding sides
sides_out true true xs ys h = both refl refl (pairs_out xs ys h)
sides_out true false xs ys h = left_one refl h
sides_out false true xs ys h = right_one refl h
sides_out false false {z} xs ys h = go (Memᴰ.append_cases xs h)
  where
    go : Memᴰ z xs ⊎ Memᴰ z ys → Sides false false xs ys z
    go (inl k) = left_one refl k
    go (inr k) = right_one refl k

pub sides_left : (b : Bool) {z : List Taker} {xs : List (List Taker)} (ys : List (List Taker)) → Memᴰ z xs → Memᴰ z (sides b false xs ys)
unfolding sides
sides_left true ys h = h
sides_left false ys h = Memᴰ.append_left ys h

pub sides_right : (e : Bool) {z : List Taker} (xs : List (List Taker)) {ys : List (List Taker)} → Memᴰ z ys → Memᴰ z (sides false e xs ys)
unfolding sides
sides_right true xs h = h
sides_right false xs h = Memᴰ.append_right xs h

-- what holds of every edge under the action of a composition's automata holds of the takers of its moves
pub takers_under : (m : Model) (a : ℕ) (P : Taker → Type 0) (c : Tree) → Leaves (λ k. (e : Edge) → Memᴰ e (automaton m k).edges → e.action ≡ a → P (record { automaton = k; edge = e })) c
    → {x : List Taker} → Memᴰ x (moves m a c) → (y : Taker) → Memᴰ y x → P y
unfolding Leaves moves
takers_under m a P (par c d) h {x} g y p =
    go (λ z q. takers_under m a P c h.0 {x = z} q y) (λ z q. takers_under m a P d h.1 {x = z} q y) (sides_out (in_set m a c) (in_set m a d) (moves m a c) (moves m a d) g)
  where
    go :
        ((z : List Taker) → Memᴰ z (moves m a c) → Memᴰ y z → P y)
        → ((z : List Taker) → Memᴰ z (moves m a d) → Memᴰ y z → P y)
        → Sides (in_set m a c) (in_set m a d) (moves m a c) (moves m a d) x
        → P y
    go f f' (both b e r) = pick (Memᴰ.append_cases r.left (subst (λ (z : List Taker). Memᴰ y z) r.whole p))
      where
        pick : Memᴰ y r.left ⊎ Memᴰ y r.right → P y
        pick (inl q) = f r.left r.in_left q
        pick (inr q) = f' r.right r.in_right q
    go f f' (left_one e r) = f x r p
    go f f' (right_one b r) = f' x r p
takers_under m a P (syn list c) h g y p = takers_under m a P c h g y p
takers_under m a P (ini q c) h g y p = takers_under m a P c h g y p
takers_under m a P (leaf k) h g y p =
    let r = Memᴰ.of_map (alone k) (under a (automaton m k).edges) g in
    let e : y ≡ record { automaton = k; edge = r.0 } = Memᴰ.eq_of_singleton (subst (λ (z : List Taker). Memᴰ y z) (sym r.2) p) in
    let u = under_out a (automaton m k).edges r.1 in
    subst P (sym e) (h r.0 u.0 u.1)

-- the same of what holds of every edge, under whatever action
pub of_takers : (m : Model) (a : ℕ) (P : Taker → Type 0) (c : Tree) → Leaves (λ k. (e : Edge) → Memᴰ e (automaton m k).edges → P (record { automaton = k; edge = e })) c
    → {x : List Taker} → Memᴰ x (moves m a c) → (y : Taker) → Memᴰ y x → P y
of_takers m a P c h = takers_under m a P c (leaves_map (λ k f e i q. f e i) c h)

-- a move has a taker
pub some_taker : (m : Model) (a : ℕ) (c : Tree) (x : List Taker) → Memᴰ x (moves m a c) → 1 ≤ length x
unfolding moves
some_taker m a (par c d) x h = go (λ y i. some_taker m a c y i) (λ y i. some_taker m a d y i) (sides_out (in_set m a c) (in_set m a d) (moves m a c) (moves m a d) h)
  where
    go : ((y : List Taker) → Memᴰ y (moves m a c) → 1 ≤ length y) → ((y : List Taker) → Memᴰ y (moves m a d) → 1 ≤ length y)
        → Sides (in_set m a c) (in_set m a d) (moves m a c) (moves m a d) x → 1 ≤ length x
    go f g (both b e r) = let p = f r.left r.in_left in omega (arith, ap (length {A = Taker}) r.whole, length-append r.left r.right)
    go f g (left_one e r) = f x r
    go f g (right_one b r) = g x r
some_taker m a (syn list c) x h = some_taker m a c x h
some_taker m a (ini p c) x h = some_taker m a c x h
some_taker m a (leaf k) x h = let r = Memᴰ.of_map (alone k) (under a (automaton m k).edges) h in omega (arith, ap (length {A = Taker}) r.2)

-- k is one of `count` numbers from i on
pub record Within (i count k : ℕ) : Type 0 where
  pub low : i ≤ k
  pub high : k < i + count

-- takers are leaves
pub takers_within : (m : Model) (a : ℕ) (c : Tree) (i : ℕ) → Numbered i c → {x : List Taker} → Memᴰ x (moves m a c) → (y : Taker) → Memᴰ y x → Within i (size c) y.automaton
takers_within m a c i w h = of_takers m a (λ y. Within i (size c) y.automaton) c (leaves_in c i w (λ j l u e q. record { low = l; high = u })) h

pub within : (m : Model) (a : ℕ) (c : Tree) (i : ℕ) → Numbered i c → {x : List Taker} → Memᴰ x (moves m a c) → (k : ℕ) → is_taker k x ≡ true → Within i (size c) k
unfolding is_taker
within m a c i w {x} h k p =
    let r = exists_elim (λ (y : Taker). eqb k y.automaton) x p in
    subst (Within i (size c)) (sym (eq_of _ _ r.2)) (takers_within m a c i w h r.0 r.1)
