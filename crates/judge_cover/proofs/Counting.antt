-- Tests of the numbers from one up to another.
use mathlib.Core.Path.{◌≡◌, refl, sym, ap, ap₂, ◌∙◌, subst}
use mathlib.Core.Bool.{Bool, true, ◌||◌, true≢false}
use mathlib.Core.List.{[], ◌∷◌, ◌++◌, map, Memᴰ}
use mathlib.Core.Logic.{◌⊎◌, inl, inr}
use Prim.Native.Nat.{ℕ, zero, suc, ◌+◌, ◌-◌, ◌≤◌, ◌<◌}
use native.Mathlib.Omega.{arith}
use Rattle.model.specs.Basic.{every, exists, count_up}
use lib.Dec.{eqb}
use borrow.Author.Tests.{eqb-true}
use Rattle.model.proofs.Tests.{or_left, or_right, or_cases, eq_self, and_intro, exists_elim}
use Rattle.model.proofs.Lists.{count_split}

-- around one of them
pub count_around : (a n k : ℕ) → a ≤ k → k < a + n → count_up a n ≡ count_up a (k - a) ++ k ∷ count_up (suc k) (a + n - suc k)
unfolding count_up
count_around a n k low high =
    let e : n ≡ (k - a) + suc (a + n - suc k) = omega arith in
    let z : a + (k - a) ≡ k = omega arith in
    ap (count_up a) e ∙ count_split a (k - a) (suc (a + n - suc k)) ∙ ap (λ j. count_up a (k - a) ++ count_up j (suc (a + n - suc k))) z

pub count_at_lem : (n k : ℕ) → k < n → count_up 0 n ≡ count_up 0 k ++ k ∷ count_up (suc k) (n - suc k)
count_at_lem n k h =
    let z : k - 0 ≡ k = omega arith in
    let y : 0 + n - suc k ≡ n - suc k = omega arith in
    count_around 0 n k (omega arith) (omega arith) ∙ ap₂ (λ i j. count_up 0 i ++ k ∷ count_up (suc k) j) z y

pub exists_count : (f g : ℕ → Bool) (n c : ℕ) → ((k : ℕ) → n ≤ k → k < n + c → f k ≡ g k) → exists f (count_up n c) ≡ exists g (count_up n c)
unfolding exists count_up
exists_count f g n zero h = refl
exists_count f g n (suc c) h = rw (h n (omega arith) (omega arith), exists_count f g (suc n) c (λ k a b. h k (omega arith) (omega arith)))

pub map_count : {A : Type 0} (f g : ℕ → A) (c n : ℕ) → ((k : ℕ) → n ≤ k → k < n + c → f k ≡ g k) → map f (count_up n c) ≡ map g (count_up n c)
unfolding count_up
map_count f g zero n h = refl
map_count f g (suc c) n h = ap₂ (λ x l. x ∷ l) (h n (omega arith) (omega arith)) (map_count f g c (suc n) (λ k a b. h k (omega arith) (omega arith)))

-- the last of them
pub count_last : (n : ℕ) → count_up 0 (n + 1) ≡ count_up 0 n ++ n ∷ []
unfolding count_up
count_last n =
    let z : 0 + n ≡ n = omega arith in
    count_split 0 n 1 ∙ ap (λ k. count_up 0 n ++ k ∷ []) z

-- one of them of which a test holds
pub record Found (f : ℕ → Bool) (a n : ℕ) : Type 0 where
  pub at : ℕ
  pub low : a ≤ at
  pub high : at < a + n
  pub holds : f at ≡ true

pub find : (f : ℕ → Bool) (n a : ℕ) → exists f (count_up a n) ≡ true → Found f a n
unfolding exists count_up
find f zero a h = absurd (true≢false (sym h))
find f (suc n) a h = go (λ g. find f n (suc a) g) (or_cases (f a) (exists f (count_up (suc a) n)) h)
  where
    go : (exists f (count_up (suc a) n) ≡ true → Found f (suc a) n) → (f a ≡ true) ⊎ (exists f (count_up (suc a) n) ≡ true) → Found f a (suc n)
    go ih (inl e) = record { at = a; low = omega arith; high = omega arith; holds = e }
    go ih (inr e) =
        let r = ih e in
        let l = r.low in
        let h = r.high in
        record { at = r.at; low = omega arith; high = omega arith; holds = r.holds }

pub found : (f : ℕ → Bool) (n a k : ℕ) → a ≤ k → k < a + n → f k ≡ true → exists f (count_up a n) ≡ true
unfolding exists count_up
found f zero a k l h e = absurd (omega arith)
found f (suc n) a zero l h e =
    let z : a ≡ 0 = omega arith in
    or_left (exists f (count_up (suc a) n)) (ap f z ∙ e)
found f (suc n) a (suc k) l h e = go (λ g. found f n (suc a) (suc k) g (omega arith) e) (split a (suc k) l)
  where
    split : (a k : ℕ) → a ≤ k → (a ≡ k) ⊎ (suc a ≤ k)
    split a zero l = inl (omega arith)
    split zero (suc k) l = inr (omega arith)
    split (suc a) (suc k) l = more (split a k (omega arith))
      where
        more : (a ≡ k) ⊎ (suc a ≤ k) → (suc a ≡ suc k) ⊎ (suc (suc a) ≤ suc k)
        more (inl e) = inl (ap suc e)
        more (inr e) = inr (omega arith)

    go : (suc a ≤ suc k → exists f (count_up (suc a) n) ≡ true) → (a ≡ suc k) ⊎ (suc a ≤ suc k) → (f a || exists f (count_up (suc a) n)) ≡ true
    go ih (inl z) = or_left (exists f (count_up (suc a) n)) (ap f z ∙ e)
    go ih (inr g) = or_right (f a) (ih g)

pub member_of : (n a k : ℕ) → a ≤ k → k < a + n → Memᴰ k (count_up a n)
member_of n a k l h =
    let e = exists_elim (λ j. eqb j k) (count_up a n) (found (λ j. eqb j k) n a k l h (eq_self k)) in
    subst (λ j. Memᴰ j (count_up a n)) (eqb-true e.0 k e.2) e.1

pub every_count : (f : ℕ → Bool) (n a : ℕ) → ((k : ℕ) → a ≤ k → k < a + n → f k ≡ true) → every f (count_up a n) ≡ true
unfolding every count_up
every_count f zero a h = refl
every_count f (suc n) a h = and_intro (h a (omega arith) (omega arith)) (every_count f n (suc a) (λ k x y. h k (omega arith) (omega arith)))
