-- Laws of the list functions of specs/Basic, and of `map` beside them.
use mathlib.Core.Path.{◌≡◌, refl, sym, ap, ap₂, ◌∙◌}
use mathlib.Core.Bool.{Bool, true, false, ◌&&◌, ◌||◌, true≢false, and-false, and_comm}
use mathlib.Core.List.Memᴰ
use mathlib.Core.List.{List, [], ◌∷◌, ◌++◌, map, Memᴰ, flat_map, append_assoc}
use mathlib.Core.Logic.{◌≢◌, ◌⊎◌, inl, inr}
use Prim.Native.Nat.{ℕ, zero, suc, ◌+◌, ◌≤◌, ◌<◌}
use native.Mathlib.Omega.{arith}
use native.Mathlib.Nat.{zero-add, suc-add}
use lib.ListN.{length, get_or, take}
use lib.Seq.{length-take-le, take_all}
use lib.Dec.{eqb}
use Rattle.model.specs.Basic.{every, exists, keep, member, same, count_up, sum}
use Rattle.model.proofs.Tests.{and_left, and_right, eq_self, eq_of, of_eq, or_left, or_right, or_none, or_none_left, or_none_right, exists_append}

module _ {A : Type 0} (f : A → Bool) where
  -- an item of which f holds is kept
  pub keep_in : {x : A} {l : List A} → Memᴰ x l → f x ≡ true → Memᴰ x (keep f l)
  unfolding keep
  keep_in {x} (Memᴰ.head {x = y} {xs = l} e) p = rw (rw e at p, keep) (Memᴰ.head e)
  keep_in {x} (Memᴰ.tail {x = y} {xs = l} h) p = go (f y) (keep_in h p)
    where
      go : (b : Bool) → Memᴰ x (keep f l) → Memᴰ x (elim b as (λ c. List A) [ true ↦ y ∷ keep f l | false ↦ keep f l ])
      go true k = Memᴰ.tail k
      go false k = k

  -- what is kept is an item of which f holds
  pub keep_out : {x : A} (l : List A) → Memᴰ x (keep f l) → Memᴰ x l × (f x ≡ true)
  unfolding keep
  keep_out [] h = absurd (Memᴰ.not-nil h)
  keep_out {x} (y ∷ l) h = go (f y) refl (λ k. keep_out l k) h
    where
      last : f y ≡ true → (Memᴰ x (keep f l) → Memᴰ x l × (f x ≡ true)) → (x ≡ y) ⊎ Memᴰ x (keep f l) → Memᴰ x (y ∷ l) × (f x ≡ true)
      last p ih (inl q) = (Memᴰ.head q, ap f q ∙ p)
      last p ih (inr k) = (Memᴰ.tail (ih k).0, (ih k).1)

      go : (b : Bool) → f y ≡ b → (Memᴰ x (keep f l) → Memᴰ x l × (f x ≡ true)) → Memᴰ x (elim b as (λ c. List A) [ true ↦ y ∷ keep f l | false ↦ keep f l ]) → Memᴰ x (y ∷ l) × (f x ≡ true)
      go true p ih k = last p ih (Memᴰ.cases_cons k)
      go false p ih k = (Memᴰ.tail (ih k).0, (ih k).1)

  pub keep_append : (k l : List A) → keep f (k ++ l) ≡ keep f k ++ keep f l
  unfolding keep
  keep_append [] l = refl
  keep_append (x ∷ k) l = go (f x) (keep_append k l)
    where
      go : (b : Bool) → keep f (k ++ l) ≡ keep f k ++ keep f l
          → elim b as (λ c. List A) [ true ↦ x ∷ keep f (k ++ l) | false ↦ keep f (k ++ l) ] ≡ elim b as (λ c. List A) [ true ↦ x ∷ keep f k | false ↦ keep f k ] ++ keep f l
      go true e = ap (λ (r : List A). x ∷ r) e
      go false e = e

  -- f holds of what g gives, so all of it is kept; of none of it, so nothing is
  module _ {B : Type 0} (g : B → A) where
    pub keep_all : ((y : B) → f (g y) ≡ true) → (l : List B) → keep f (map g l) ≡ map g l
    unfolding keep
    keep_all h [] = refl
    keep_all h (y ∷ l) = rw (h y, keep) (ap (λ (r : List A). g y ∷ r) (keep_all h l))

    pub keep_none : ((y : B) → f (g y) ≡ false) → (l : List B) → keep f (map g l) ≡ []
    unfolding keep
    keep_none h [] = refl
    keep_none h (y ∷ l) = rw (h y, keep) (keep_none h l)

module _ {A : Type 0} where
  -- what holds of every item and of the default holds at every place
  pub all_at : (P : A → Type 0) (d : A) → P d → (l : List A) → ((x : A) → Memᴰ x l → P x) → (k : ℕ) → P (get_or l k d)
  all_at P d e [] h k = e
  all_at P d e (x ∷ l) h zero = h x (Memᴰ.head refl)
  all_at P d e (x ∷ l) h (suc k) = all_at P d e l (λ y i. h y (Memᴰ.tail i)) k

  -- of a joined list with no such item, the parts have none
  pub none_left : (f : A → Bool) (k l : List A) → exists f (k ++ l) ≡ false → exists f k ≡ false
  none_left f k l h = or_none_left (exists f k) (exists f l) (sym (exists_append f k l) ∙ h)

  pub none_right : (f : A → Bool) (k l : List A) → exists f (k ++ l) ≡ false → exists f l ≡ false
  none_right f k l h = or_none_right (exists f k) (exists f l) (sym (exists_append f k l) ∙ h)

  -- no item is of the one kind, so none is of a narrower kind
  pub none_narrower : (f g : A → Bool) → ((x : A) → f x ≡ false → g x ≡ false) → (l : List A) → exists f l ≡ false → exists g l ≡ false
  unfolding exists
  none_narrower f g n [] h = refl
  none_narrower f g n (x ∷ l) h =
      or_none (n x (or_none_left (f x) (exists f l) h)) (none_narrower f g n l (or_none_right (f x) (exists f l) h))

-- a number is among the kept ones if it is in the list and f holds of it
pub member_keep : (f : ℕ → Bool) (a : ℕ) (l : List ℕ) → member a (keep f l) ≡ (member a l && f a)
unfolding member exists keep
member_keep f a [] = refl
member_keep f a (x ∷ l) = go (eqb a x) refl (f x) refl (member_keep f a l)
  where
    go : (p : Bool) → eqb a x ≡ p → (q : Bool) → f x ≡ q → member a (keep f l) ≡ (member a l && f a)
        → member a (elim q as (λ c. List ℕ) [ true ↦ x ∷ keep f l | false ↦ keep f l ]) ≡ ((p || member a l) && f a)
    go true e true g ih = or_left _ e ∙ sym (ap f (eq_of a x e) ∙ g)
    go true e false g ih =
        let z : f a ≡ false = ap f (eq_of a x e) ∙ g in
        ih ∙ rw (z, and-false)
    go false e true g ih = rw e ih
    go false e false g ih = ih

-- the numbers from n on that are below n + count are counted up
pub member_count : (a n count : ℕ) → n ≤ a → a < n + count → member a (count_up n count) ≡ true
unfolding member exists count_up
member_count a n zero l h = absurd (omega arith)
member_count a n (suc count) l h = go (eqb a n) refl (λ i. member_count a (suc n) count i (omega arith))
  where
    go : (b : Bool) → eqb a n ≡ b → (suc n ≤ a → member a (count_up (suc n) count) ≡ true) → (eqb a n || member a (count_up (suc n) count)) ≡ true
    go true e ih = or_left _ e
    go false e ih =
        let ne : n ≢ a = λ q. true≢false (sym (of_eq a n (sym q)) ∙ e) in
        or_right (eqb a n) (ih (omega arith))

pub every_map : {A B : Type 0} (f : B → Bool) (g : A → B) (l : List A) → every f (map g l) ≡ every (λ x. f (g x)) l
unfolding every
every_map f g [] = refl
every_map f g (x ∷ l) = rw (every_map f g l)

-- what is kept, by the first item's test
module _ {A : Type 0} where
  pub keep_first : (f : A → Bool) (x : A) (xs : List A) → f x ≡ true → keep f (x ∷ xs) ≡ x ∷ keep f xs
  unfolding keep
  keep_first f x xs e = rw (e, keep)

  pub keep_skip : (f : A → Bool) (x : A) (xs : List A) → f x ≡ false → keep f (x ∷ xs) ≡ keep f xs
  unfolding keep
  keep_skip f x xs e = rw (e, keep)

  pub keep_same : (f g : A → Bool) (x : A) (xs : List A) → f x ≡ g x → keep f xs ≡ keep g xs → keep f (x ∷ xs) ≡ keep g (x ∷ xs)
  keep_same f g x xs e r = go (g x) refl
    where
      go : (b : Bool) → g x ≡ b → keep f (x ∷ xs) ≡ keep g (x ∷ xs)
      go true h = keep_first f x xs (e ∙ h) ∙ ap (λ l. x ∷ l) r ∙ sym (keep_first g x xs h)
      go false h = keep_skip f x xs (e ∙ h) ∙ r ∙ sym (keep_skip g x xs h)

  -- two tests that agree on a list keep the same of it
  pub keep_ext : (f g : A → Bool) (l : List A) → ((x : A) → Memᴰ x l → f x ≡ g x) → keep f l ≡ keep g l
  keep_ext f g [] h = unfold keep in refl
  keep_ext f g (x ∷ l) h = keep_same f g x l (h x (Memᴰ.head refl)) (keep_ext f g l (λ y i. h y (Memᴰ.tail i)))

  -- f holds of every item, so all of the list is kept
  pub keep_whole : (f : A → Bool) (l : List A) → ((x : A) → Memᴰ x l → f x ≡ true) → keep f l ≡ l
  keep_whole f [] h = unfold keep in refl
  keep_whole f (x ∷ l) h = keep_first f x l (h x (Memᴰ.head refl)) ∙ ap (λ (r : List A). x ∷ r) (keep_whole f l (λ y i. h y (Memᴰ.tail i)))

  -- it holds of none, so nothing is kept
  pub keep_empty : (f : A → Bool) (l : List A) → ((x : A) → Memᴰ x l → f x ≡ false) → keep f l ≡ []
  keep_empty f [] h = unfold keep in refl
  keep_empty f (x ∷ l) h = keep_skip f x l (h x (Memᴰ.head refl)) ∙ keep_empty f l (λ y i. h y (Memᴰ.tail i))

  -- what two tests keep, one after the other, both keep
  pub keep_keep : (f g : A → Bool) (l : List A) → keep g (keep f l) ≡ keep (λ x. f x && g x) l
  keep_keep f g [] = unfold keep in refl
  keep_keep f g (x ∷ l) = go (f x) refl (g x) refl (keep_keep f g l)
    where
      go : (b : Bool) → f x ≡ b → (c : Bool) → g x ≡ c → keep g (keep f l) ≡ keep (λ y. f y && g y) l → keep g (keep f (x ∷ l)) ≡ keep (λ y. f y && g y) (x ∷ l)
      go true p true q ih = rw (keep_first f x l p, keep_first g x (keep f l) q, keep_first (λ (y : A). f y && g y) x l (rw (p, q)), ih)
      go true p false q ih = rw (keep_first f x l p, keep_skip g x (keep f l) q, keep_skip (λ (y : A). f y && g y) x l (rw (p, q)), ih)
      go false p c q ih = rw (keep_skip f x l p, keep_skip (λ (y : A). f y && g y) x l (rw p), ih)

  -- so their order plays no part
  pub keep_swap : (f g : A → Bool) (l : List A) → keep g (keep f l) ≡ keep f (keep g l)
  keep_swap f g l = keep_keep f g l ∙ keep_ext _ _ l (λ x i. and_comm (f x) (g x)) ∙ sym (keep_keep g f l)

  -- what is kept of a list is no more than the list, and all of it if it is as long
  pub keep_length : (f : A → Bool) (l : List A) → length (keep f l) ≤ length l
  keep_length f [] = unfold keep in omega arith
  keep_length f (x ∷ l) = go (f x) refl (keep_length f l)
    where
      go : (b : Bool) → f x ≡ b → length (keep f l) ≤ length l → length (keep f (x ∷ l)) ≤ suc (length l)
      go true p ih = rw (keep_first f x l p) (omega arith)
      go false p ih = rw (keep_skip f x l p) (omega arith)

  pub keep_long : (f : A → Bool) (l : List A) → length (keep f l) ≡ length l → keep f l ≡ l
  keep_long f [] h = unfold keep in refl
  keep_long f (x ∷ l) h = go (f x) refl (λ e. keep_long f l e)
    where
      go : (b : Bool) → f x ≡ b → (length (keep f l) ≡ length l → keep f l ≡ l) → keep f (x ∷ l) ≡ x ∷ l
      go true p ih = keep_first f x l p ∙ ap (λ (k : List A). x ∷ k) (ih (omega (arith, ap (length {A = A}) (keep_first f x l p))))
      go false p ih = absurd (omega (arith, keep_length f l, ap (length {A = A}) (keep_skip f x l p)))

  -- nor is it more in sum
  pub keep_sum : (f : A → Bool) (g : A → ℕ) (l : List A) → sum (map g (keep f l)) ≤ sum (map g l)
  unfolding sum
  keep_sum f g [] = unfold keep in omega arith
  keep_sum f g (x ∷ l) = go (f x) refl (keep_sum f g l)
    where
      go : (b : Bool) → f x ≡ b → sum (map g (keep f l)) ≤ sum (map g l) → sum (map g (keep f (x ∷ l))) ≤ g x + sum (map g l)
      go true p ih = rw (keep_first f x l p) (omega arith)
      go false p ih = rw (keep_skip f x l p) (omega arith)

-- what is kept of a map is the map of what is kept
pub keep_map : {A B : Type 0} (f : B → Bool) (g : A → B) (l : List A) → keep f (map g l) ≡ map g (keep (λ x. f (g x)) l)
keep_map f g [] = unfold keep in refl
keep_map {A} {B} f g (x ∷ l) = go (f (g x)) refl (keep_map f g l)
  where
    go : (b : Bool) → f (g x) ≡ b → keep f (map g l) ≡ map g (keep (λ y. f (g y)) l) → keep f (g x ∷ map g l) ≡ map g (keep (λ y. f (g y)) (x ∷ l))
    go true p ih = rw (keep_first f (g x) (map g l) p, keep_first (λ (y : A). f (g y)) x l p, ih)
    go false p ih = rw (keep_skip f (g x) (map g l) p, keep_skip (λ (y : A). f (g y)) x l p, ih)

-- `same` is equality
same_cons : (a b : ℕ) (s t : List ℕ) (c : Bool) → eqb a b ≡ c → same (a ∷ s) (b ∷ t) ≡ (c && same s t)
unfolding same
same_cons a b s t true e = rw (e, same)
same_cons a b s t false e = rw (e, same)

pub same_of : (s t : List ℕ) → same s t ≡ true → s ≡ t
unfolding same
same_of [] [] h = refl
same_of [] (b ∷ t) h = absurd (true≢false (sym h))
same_of (a ∷ s) [] h = absurd (true≢false (sym h))
same_of (a ∷ s) (b ∷ t) h =
    let q = sym (same_cons a b s t (eqb a b) refl) ∙ h in
    ap₂ (λ x l. x ∷ l) (eq_of a b (and_left (eqb a b) _ q)) (same_of s t (and_right (eqb a b) _ q))

pub same_self : (s : List ℕ) → same s s ≡ true
same_self [] = unfold same in refl
same_self (a ∷ s) = same_cons a a s s true (eq_self a) ∙ same_self s

pub flat_append : {A B : Type 0} (f : A → List B) (k l : List A) → flat_map f (k ++ l) ≡ flat_map f k ++ flat_map f l
unfolding flat_map
flat_append f [] l = refl
flat_append f (x ∷ k) l = rw (flat_append f k l) (sym (append_assoc (f x) (flat_map f k) (flat_map f l)))

pub sum_append : (k l : List ℕ) → sum (k ++ l) ≡ sum k + sum l
unfolding sum
sum_append [] l = omega arith
sum_append (x ∷ k) l = let ih = sum_append k l in omega arith

-- numbers counted up, in two parts; and the last of them
pub count_split : (n a b : ℕ) → count_up n (a + b) ≡ count_up n a ++ count_up (n + a) b
unfolding count_up
count_split n zero b = let e : n + 0 ≡ n = omega arith in rw (e, zero-add)
count_split n (suc a) b = let e : n + suc a ≡ suc n + a = omega arith in rw (e, suc-add) (ap (λ (l : List ℕ). n ∷ l) (count_split (suc n) a b))

pub count_last : (n a : ℕ) → count_up n (suc a) ≡ count_up n a ++ (n + a) ∷ []
unfolding count_up
count_last n zero = let e : n + 0 ≡ n = omega arith in rw e
count_last n (suc a) = let e : n + suc a ≡ suc n + a = omega arith in rw e (ap (λ (l : List ℕ). n ∷ l) (count_last (suc n) a))

-- the first so many items, where there are so many, and where there are not
pub first_long : (l : List ℕ) (n : ℕ) → n ≤ length l → n ≡ length (take n l)
first_long l n h = sym (length-take-le n l h)

pub first_all : (l : List ℕ) (n : ℕ) → length l < n → l ≡ take n l
first_all l n h = let k : length l ≤ n = omega arith in sym (take_all n l k)

-- past its end a list reads 0
pub word_past : (l : List ℕ) (i : ℕ) → length l ≤ i → 0 ≡ get_or l i 0
word_past [] i h = refl
word_past (x ∷ l) zero h = absurd (omega arith)
word_past (x ∷ l) (suc i) h = word_past l i (omega arith)
