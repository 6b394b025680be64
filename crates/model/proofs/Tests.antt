-- Laws of the tests of specs/Basic.
use mathlib.Core.Path.{◌≡◌, refl, sym, ap, ◌∙◌}
use mathlib.Core.Bool.{Bool, true, false, not, ◌&&◌, ◌||◌, true≢false, and_assoc, or_assoc}
use mathlib.Core.List.{List, [], ◌∷◌, ◌++◌, map, Memᴰ}
use mathlib.Core.Logic.{◌⊎◌, inl, inr}
use Prim.Native.Nat.{ℕ, zero, suc, ◌+◌, ◌≤◌, ◌<◌}
use native.Mathlib.Omega.{arith}
use native.Mathlib.Nat.{zero-add, suc-add}
use lib.IntN.{ℤ, pos, negsuc}
use lib.ListN.{get_or}
use lib.Dec.{T, eqb, leb, ltb, le→leb, leb→le, eqb→eq, eqb_refl, ltb→lt, lt→ltb, nltb→le, nleb→lt}
use Rattle.model.specs.Basic.{eq_z, each, every, exists}

pub of_T : (b : Bool) → T b → b ≡ true
of_T true h = refl
of_T false h = absurd h

pub to_T : (b : Bool) → b ≡ true → T b
to_T b h = rw h tt

pub and_intro : {a b : Bool} → a ≡ true → b ≡ true → (a && b) ≡ true
and_intro p q = rw (p, q)

pub and_left : (a b : Bool) → (a && b) ≡ true → a ≡ true
and_left true b h = refl
and_left false b h = h

pub and_right : (a b : Bool) → (a && b) ≡ true → b ≡ true
and_right true b h = h
and_right false b h = cc

pub and_same : {a b c d : Bool} → a ≡ c → b ≡ d → (a && b) ≡ (c && d)
and_same p q = rw (p, q)

pub or_same : {a b c d : Bool} → a ≡ c → b ≡ d → (a || b) ≡ (c || d)
or_same p q = rw (p, q)

pub or_left : {a : Bool} (b : Bool) → a ≡ true → (a || b) ≡ true
or_left b p = rw p

pub or_right : (a : Bool) {b : Bool} → b ≡ true → (a || b) ≡ true
or_right true p = refl
or_right false p = p

-- of an alternative, the other side
pub or_other : {a b : Bool} → (a || b) ≡ true → a ≡ false → b ≡ true
or_other h p = rw p at h

pub or_cases : (a b : Bool) → (a || b) ≡ true → (a ≡ true) ⊎ (b ≡ true)
or_cases true b h = inl refl
or_cases false b h = inr h

pub or_more_left : (a b c : Bool) → (a || c) ≡ true → ((a || b) || c) ≡ true
or_more_left true b c h = refl
or_more_left false b c h = or_right b h

pub or_more_right : (a b c : Bool) → (b || c) ≡ true → ((a || b) || c) ≡ true
or_more_right true b c h = refl
or_more_right false b c h = h

pub or_less_left : (a b c : Bool) → (b ≡ true → ⊥) → ((a || b) || c) ≡ true → (a || c) ≡ true
or_less_left true b c n h = refl
or_less_left false true c n h = absurd (n refl)
or_less_left false false c n h = h

pub or_less_right : (a b c : Bool) → (a ≡ true → ⊥) → ((a || b) || c) ≡ true → (b || c) ≡ true
or_less_right true b c n h = absurd (n refl)
or_less_right false b c n h = h

pub or_intro : (a b : Bool) → (a ≡ false → b ≡ true) → (a || b) ≡ true
or_intro true b h = refl
or_intro false b h = h refl

pub or_none : {a b : Bool} → a ≡ false → b ≡ false → (a || b) ≡ false
or_none p q = rw (p, q)

pub or_none_left : (a b : Bool) → (a || b) ≡ false → a ≡ false
or_none_left true b h = h
or_none_left false b h = refl

pub or_none_right : (a b : Bool) → (a || b) ≡ false → b ≡ false
or_none_right true b h = absurd (true≢false h)
or_none_right false b h = h

pub not-false : (b : Bool) → not b ≡ false → b ≡ true
not-false true h = refl
not-false false h = absurd (true≢false h)

pub not-true : (b : Bool) → not b ≡ true → b ≡ false
not-true true h = sym h
not-true false h = refl

pub never : {A : Type 0} → false ≡ true → A
never h = absurd (true≢false (sym h))

pub not-not : (b : Bool) → not (not b) ≡ b
not-not true = refl
not-not false = refl

pub or_self : (b : Bool) → (b || b) ≡ b
or_self true = refl
or_self false = refl

pub and_no_right : (a b : Bool) → b ≡ false → (a && b) ≡ false
and_no_right true b e = e
and_no_right false b e = refl

-- two answers are equal where each is true if the other is
pub both_ways : (a b : Bool) → (a ≡ true → b ≡ true) → (b ≡ true → a ≡ true) → a ≡ b
both_ways true b f g = sym (f refl)
both_ways false true f g = g refl
both_ways false false f g = refl

pub eq_of : (a b : ℕ) → eqb a b ≡ true → a ≡ b
eq_of a b h = eqb→eq a b (to_T (eqb a b) h)

pub eq_self : (a : ℕ) → eqb a a ≡ true
eq_self a = of_T (eqb a a) (eqb_refl a)

pub of_eq : (a b : ℕ) → a ≡ b → eqb a b ≡ true
of_eq a b p = rw p (eq_self b)

pub not_eq : (a b : ℕ) → (a ≡ b → ⊥) → eqb a b ≡ false
not_eq a b h = go (eqb a b) refl
  where
    go : (c : Bool) → eqb a b ≡ c → c ≡ false
    go true e = absurd (h (eq_of a b e))
    go false e = refl

pub lt_of : (a b : ℕ) → ltb a b ≡ true → a < b
lt_of a b h = ltb→lt a b (to_T _ h)

pub of_lt : (a b : ℕ) → a < b → ltb a b ≡ true
of_lt a b h = of_T (ltb a b) (lt→ltb a b h)

pub le_of : (a b : ℕ) → ltb a b ≡ false → b ≤ a
le_of a b h = nltb→le a b (rw h tt)

-- `leb` as an order
pub of_le : (a b : ℕ) → a ≤ b → leb a b ≡ true
of_le a b h = of_T (leb a b) (le→leb a b h)

pub below_of : (a b : ℕ) → leb a b ≡ false → b < a
below_of a b h = nleb→lt a b (rw h tt)

pub not_leb : (a b : ℕ) → not (leb a b) ≡ ltb b a
not_leb a b = go (leb a b) refl (ltb b a) refl
  where
    go : (t : Bool) → leb a b ≡ t → (u : Bool) → ltb b a ≡ u → not t ≡ u
    go true e true f = let l = leb→le a b (to_T (leb a b) e) in let m = lt_of b a f in absurd (omega arith)
    go true e false f = refl
    go false e true f = refl
    go false e false f = let l = below_of a b e in let m = le_of b a f in absurd (omega arith)

pub eq_z_of : (a b : ℤ) → eq_z a b ≡ true → a ≡ b
unfolding eq_z
eq_z_of (pos a) (pos b) h = ap pos (eq_of a b h)
eq_z_of (pos a) (negsuc b) h = cc
eq_z_of (negsuc a) (pos b) h = cc
eq_z_of (negsuc a) (negsuc b) h = ap negsuc (eq_of a b h)

pub eq_z_self : (a : ℤ) → eq_z a a ≡ true
unfolding eq_z
eq_z_self (pos a) = eq_self a
eq_z_self (negsuc a) = eq_self a

pub of_eq_z : (a b : ℤ) → a ≡ b → eq_z a b ≡ true
of_eq_z a b p = rw p (eq_z_self b)

-- each
pub each_intro : (k : ℕ) (f : ℕ → Bool) → ((i : ℕ) → i < k → f i ≡ true) → each k f ≡ true
unfolding each
each_intro zero f h = refl
each_intro (suc k) f h = and_intro (h 0 (omega arith)) (each_intro k (λ i. f (suc i)) (λ i l. h (suc i) (omega arith)))

pub each_elim : (k : ℕ) (f : ℕ → Bool) → each k f ≡ true → (i : ℕ) → i < k → f i ≡ true
unfolding each
each_elim zero f h i l = absurd (omega arith)
each_elim (suc k) f h zero l = and_left (f 0) _ h
each_elim (suc k) f h (suc i) l = each_elim k (λ j. f (suc j)) (and_right (f 0) _ h) i (omega arith)

pub each_ext : (k : ℕ) (f g : ℕ → Bool) → ((i : ℕ) → i < k → f i ≡ g i) → each k f ≡ each k g
unfolding each
each_ext zero f g h = refl
each_ext (suc k) f g h =
    let e = each_ext k (λ i. f (suc i)) (λ i. g (suc i)) (λ i l. h (suc i) (omega arith)) in
    let e0 = h 0 (omega arith) in
    cc

pub each_add : (j k : ℕ) (f : ℕ → Bool) → each (j + k) f ≡ (each j f && each k (λ i. f (j + i)))
unfolding each
each_add zero k f = simp zero-add
each_add (suc j) k f = simp (suc-add, each_add j k, and_assoc)

module _ {A : Type 0} where
  pub exists_intro : (f : A → Bool) {x : A} {l : List A} → Memᴰ x l → f x ≡ true → exists f l ≡ true
  unfolding exists
  exists_intro f (Memᴰ.head e) p = or_left _ (rw e at p)
  exists_intro f (Memᴰ.tail h) p = or_right (f _) (exists_intro f h p)

  pub exists_elim : (f : A → Bool) (l : List A) → exists f l ≡ true → (x : A) × Memᴰ x l × (f x ≡ true)
  unfolding exists
  exists_elim f [] h = absurd (true≢false (sym h))
  exists_elim f (x ∷ l) h = go (f x) refl (λ e. exists_elim f l e)
    where
      go : (b : Bool) → f x ≡ b → (exists f l ≡ true → (y : A) × Memᴰ y l × (f y ≡ true)) → (y : A) × Memᴰ y (x ∷ l) × (f y ≡ true)
      go true e ih = (x, Memᴰ.head refl, e)
      go false e ih = let r = ih (or_other h e) in (r.0, Memᴰ.tail r.1, r.2)

  -- f holds of no item, and back
  pub exists_none : (f : A → Bool) (l : List A) → exists f l ≡ false → (x : A) → Memᴰ x l → f x ≡ false
  exists_none f l h x i = go (f x) refl
    where
      go : (b : Bool) → f x ≡ b → b ≡ false
      go true e = sym (exists_intro f i e) ∙ h
      go false e = refl

  pub none_exists : (f : A → Bool) (l : List A) → ((x : A) → Memᴰ x l → f x ≡ false) → exists f l ≡ false
  unfolding exists
  none_exists f [] h = refl
  none_exists f (x ∷ l) h = or_none (h x (Memᴰ.head refl)) (none_exists f l (λ y i. h y (Memᴰ.tail i)))

  pub exists_append : (f : A → Bool) (k l : List A) → exists f (k ++ l) ≡ (exists f k || exists f l)
  unfolding exists
  exists_append f [] l = refl
  exists_append f (x ∷ k) l = simp (exists_append f k l, or_assoc)

  pub exists_ext : (f g : A → Bool) (l : List A) → ((x : A) → Memᴰ x l → f x ≡ g x) → exists f l ≡ exists g l
  unfolding exists
  exists_ext f g [] h = refl
  exists_ext f g (x ∷ l) h = rw (h x (Memᴰ.head refl), exists_ext f g l (λ y e. h y (Memᴰ.tail e)))

  pub every_ext : (f g : A → Bool) (l : List A) → ((x : A) → Memᴰ x l → f x ≡ g x) → every f l ≡ every g l
  unfolding every
  every_ext f g [] h = refl
  every_ext f g (x ∷ l) h = rw (h x (Memᴰ.head refl), every_ext f g l (λ y e. h y (Memᴰ.tail e)))

  pub every_elim : (f : A → Bool) {x : A} {l : List A} → every f l ≡ true → Memᴰ x l → f x ≡ true
  unfolding every
  every_elim f {x} {l} h (Memᴰ.head {x = y} {xs = k} e) = rw e (and_left (f y) (every f k) h)
  every_elim f {x} {l} h (Memᴰ.tail {x = y} {xs = k} e) = every_elim f (and_right (f y) (every f k) h) e

  pub every_at : (f : A → Bool) (d : A) → f d ≡ true → (l : List A) → every f l ≡ true → (k : ℕ) → f (get_or l k d) ≡ true
  unfolding every
  every_at f d e [] h k = e
  every_at f d e (x ∷ l) h zero = and_left (f x) (every f l) h
  every_at f d e (x ∷ l) h (suc k) = every_at f d e l (and_right (f x) (every f l) h) k

  pub every_append : (f : A → Bool) (k l : List A) → every f (k ++ l) ≡ (every f k && every f l)
  unfolding every
  every_append f [] l = refl
  every_append f (x ∷ k) l = simp (every_append f k l, and_assoc)

pub exists_map : {A B : Type 0} (f : B → Bool) (g : A → B) (l : List A) → exists f (map g l) ≡ exists (λ x. f (g x)) l
unfolding exists
exists_map f g [] = refl
exists_map f g (x ∷ l) = rw (exists_map f g l)
