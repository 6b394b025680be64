-- Laws of `once`: each item of a list once, at the first one's place.
use mathlib.Core.Path.{◌≡◌, refl, sym, ap, ◌∙◌, subst}
use mathlib.Core.Bool.{Bool, true, false, not, ◌&&◌, ◌||◌, true≢false, or-false}
use mathlib.Core.List.Memᴰ
use mathlib.Core.List.{List, [], ◌∷◌, ◌++◌, map, flat_map, Memᴰ, append_assoc, append-nil}
use mathlib.Core.Logic.{◌↔◌, ◌⊎◌, inl, inr}
use Prim.Native.Nat.{ℕ, ◌≤◌}
use native.Mathlib.Omega.{arith}
use lib.ListN.{length}
use Rattle.model.specs.Basic.{exists, keep, once, sum}
use Rattle.model.proofs.Tests.{both_ways, exists_append, exists_intro, exists_elim}
use Rattle.model.proofs.Lists.{keep_in, keep_out, keep_first, keep_skip, keep_append, keep_ext, keep_whole, keep_empty, keep_keep, keep_map, keep_swap, keep_length, keep_long, keep_sum}

-- neither is the same as not one of them
neither : (b c : Bool) → (not b && not c) ≡ not (c || b)
neither true true = refl
neither true false = refl
neither false true = refl
neither false false = refl

module _ {A : Type 0} (equal : A → A → Bool) where
  -- the items that are not x
  abbrev others : A → List A → List A
  others x l = keep (λ y. not (equal x y)) l

  -- y is not in a list
  abbrev pub fresh : List A → A → Bool
  fresh kept y = not (exists (equal y) kept)

  -- the same list by walking from the front: an item is put at the end if it is not among those that are kept
  unfoldable pub once_from : List A → List A → List A
  once_from kept [] = kept
  once_from kept (x ∷ xs) = once_from (elim (exists (equal x) kept) [ true ↦ kept | false ↦ kept ++ x ∷ [] ]) xs

  -- what stands once stands in the list
  pub once_out : {x : A} (l : List A) → Memᴰ x (once equal l) → Memᴰ x l
  unfolding once
  once_out [] h = h
  once_out {x} (y ∷ l) h = go (λ k. once_out l k) (Memᴰ.cases_cons h)
    where
      go : (Memᴰ x (once equal l) → Memᴰ x l) → (x ≡ y) ⊎ Memᴰ x (others y (once equal l)) → Memᴰ x (y ∷ l)
      go ih (inl e) = Memᴰ.head e
      go ih (inr k) = Memᴰ.tail (ih (keep_out _ (once equal l) k).0)

  -- they are no more than the list, in number and in sum
  pub length_once : (l : List A) → length (once equal l) ≤ length l
  unfolding once
  length_once [] = omega arith
  length_once (x ∷ l) = let ih = length_once l in let k = keep_length (λ y. not (equal x y)) (once equal l) in omega arith

  pub sum_once : (f : A → ℕ) (l : List A) → sum (map f (once equal l)) ≤ sum (map f l)
  unfolding once sum
  sum_once f [] = omega arith
  sum_once f (x ∷ l) = let ih = sum_once f l in let k = keep_sum (λ y. not (equal x y)) f (once equal l) in omega arith

  -- if they are as many as the list's items, they are the list
  pub once_same : (l : List A) → length (once equal l) ≡ length l → once equal l ≡ l
  unfolding once
  once_same [] h = refl
  once_same (x ∷ l) h =
      let k = keep_length (λ y. not (equal x y)) (once equal l) in
      let n = length_once l in
      let e : once equal l ≡ l = once_same l (omega arith) in
      ap (λ (r : List A). x ∷ r) (keep_long (λ y. not (equal x y)) (once equal l) (omega arith) ∙ e)

  -- from here on, `equal` is a test of equality
  module _ (Equal-is : (x y : A) → (equal x y ≡ true) ↔ (x ≡ y)) where
    -- an item is equal to itself, and the order of the two plays no part
    equal_self : (x : A) → equal x x ≡ true
    equal_self x = (Equal-is x x).1 refl

    pub equal_sym : (x y : A) → equal x y ≡ equal y x
    equal_sym x y = both_ways (equal x y) (equal y x) (λ h. (Equal-is y x).1 (sym ((Equal-is x y).0 h))) (λ h. (Equal-is x y).1 (sym ((Equal-is y x).0 h)))

    -- what stands in the list stands once
    pub once_in : {x : A} (l : List A) → Memᴰ x l → Memᴰ x (once equal l)
    unfolding once
    once_in [] h = h
    once_in {x} (y ∷ l) h = go (equal y x) refl (λ k. once_in l k) (Memᴰ.cases_cons h)
      where
        go : (b : Bool) → equal y x ≡ b → (Memᴰ x l → Memᴰ x (once equal l)) → (x ≡ y) ⊎ Memᴰ x l → Memᴰ x (y ∷ others y (once equal l))
        go b p ih (inl e) = Memᴰ.head e
        go true p ih (inr k) = Memᴰ.head (sym ((Equal-is y x).0 p))
        go false p ih (inr k) = Memᴰ.tail (keep_in (λ z. not (equal y z)) (ih k) (ap not p))

    -- so f holds of one of them exactly when of one of the list
    pub exists_once : (f : A → Bool) (l : List A) → exists f (once equal l) ≡ exists f l
    exists_once f l = both_ways _ _
        (λ h. let r = exists_elim f (once equal l) h in exists_intro f (once_out l r.1) r.2)
        (λ h. let r = exists_elim f l h in exists_intro f (once_in l r.1) r.2)

    -- x is not among the items that are not x, so nothing stands twice
    pub once_first : (x : A) (l : List A) → Memᴰ x (keep (λ y. not (equal x y)) l) → ⊥
    once_first x l h = true≢false (sym (keep_out (λ y. not (equal x y)) l h).1 ∙ ap not (equal_self x))

    -- where f does not hold of x, it holds of none but the others
    others_all : (f : A → Bool) (x : A) → f x ≡ false → (l : List A) → keep f (others x l) ≡ keep f l
    others_all f x p l = keep_keep (λ y. not (equal x y)) f l ∙ keep_ext _ f l (λ y i. go y (equal x y) refl)
      where
        go : (y : A) (b : Bool) → equal x y ≡ b → (not b && f y) ≡ f y
        go y true q = sym p ∙ ap f ((Equal-is x y).0 q)
        go y false q = refl

    -- it is the same to keep first
    pub keep_once : (f : A → Bool) (l : List A) → keep f (once equal l) ≡ once equal (keep f l)
    unfolding once
    keep_once f [] = unfold keep in refl
    keep_once f (x ∷ l) = go (f x) refl (keep_once f l)
      where
        go : (b : Bool) → f x ≡ b → keep f (once equal l) ≡ once equal (keep f l) → keep f (x ∷ others x (once equal l)) ≡ once equal (keep f (x ∷ l))
        go true p ih = rw (keep_first f x (others x (once equal l)) p, keep_first f x l p) (ap (λ (r : List A). x ∷ r) (keep_swap (λ y. not (equal x y)) f (once equal l) ∙ ap (others x) ih))
        go false p ih = rw (keep_skip f x (others x (once equal l)) p, keep_skip f x l p) (others_all f x p (once equal l) ∙ ih)

    -- y is neither x nor kept, so it is not in the list with x at its end
    fresh_more : (kept : List A) (x y : A) → (not (equal x y) && fresh kept y) ≡ fresh (kept ++ x ∷ []) y
    unfolding exists
    fresh_more kept x y = rw (exists_append (equal y) kept (x ∷ []), or-false (equal y x), equal_sym y x) (neither (equal x y) (exists (equal y) kept))

    -- the walk from any list that is kept
    once_go : (kept l : List A) → once_from kept l ≡ kept ++ keep (fresh kept) (once equal l)
    unfolding once once_from
    once_go kept [] = unfold keep in sym (append-nil kept)
    once_go kept (x ∷ l) = go (exists (equal x) kept) refl (λ k. once_go k l)
      where
        go : (b : Bool) → exists (equal x) kept ≡ b → ((k : List A) → once_from k l ≡ k ++ keep (fresh k) (once equal l))
            → once_from (elim b as (λ c. List A) [ true ↦ kept | false ↦ kept ++ x ∷ [] ]) l ≡ kept ++ keep (fresh kept) (x ∷ others x (once equal l))
        go true p ih = ih kept ∙ ap (λ (r : List A). kept ++ r) (sym (keep_skip (fresh kept) x (others x (once equal l)) (ap not p) ∙ others_all (fresh kept) x (ap not p) (once equal l)))
        go false p ih =
            ih (kept ++ x ∷ [])
            ∙ append_assoc kept (x ∷ []) (keep (fresh (kept ++ x ∷ [])) (once equal l))
            ∙ ap (λ (r : List A). kept ++ x ∷ r) (sym (keep_keep (λ y. not (equal x y)) (fresh kept) (once equal l) ∙ keep_ext _ _ (once equal l) (λ y i. fresh_more kept x y)))
            ∙ ap (λ (r : List A). kept ++ r) (sym (keep_first (fresh kept) x (others x (once equal l)) (ap not p)))

    -- the walk from nothing gives each item once
    pub once_by : (l : List A) → once_from [] l ≡ once equal l
    unfolding exists
    once_by l = once_go [] l ∙ keep_whole (fresh []) (once equal l) (λ y i. refl)

    -- an item of a list is not fresh to it, and another is
    fresh_in : (l : List A) {x : A} → Memᴰ x l → fresh l x ≡ false
    fresh_in l {x} i = ap not (exists_intro (equal x) i (equal_self x))

    fresh_out : (l : List A) (x : A) → (Memᴰ x l → ⊥) → fresh l x ≡ true
    fresh_out l x n = go (exists (equal x) l) refl
      where
        go : (b : Bool) → exists (equal x) l ≡ b → not b ≡ true
        go true p = let r = exists_elim (equal x) l p in absurd (n (subst (λ (y : A). Memᴰ y l) (sym ((Equal-is x r.0).0 r.2)) r.1))
        go false p = refl

    -- two lists joined: those of the first, then those of the second that the first has not
    once_append : (k l : List A) → once equal (k ++ l) ≡ once equal k ++ keep (fresh k) (once equal l)
    unfolding once exists
    once_append [] l = sym (keep_whole (fresh []) (once equal l) (λ y i. refl))
    once_append (x ∷ k) l =
        ap (λ (r : List A). x ∷ others x r) (once_append k l)
        ∙ ap (λ (r : List A). x ∷ r) (
        keep_append (λ y. not (equal x y)) (once equal k) (keep (fresh k) (once equal l))
        ∙ ap (λ (r : List A). others x (once equal k) ++ r) (
        keep_keep (fresh k) (λ y. not (equal x y)) (once equal l)
        ∙ keep_ext _ _ (once equal l) (λ y i. rw (equal_sym y x) (neither (exists (equal y) k) (equal x y)))))

    -- two lists that share no item
    pub once_apart : (k l : List A) → ((x : A) → Memᴰ x k → Memᴰ x l → ⊥) → once equal (k ++ l) ≡ once equal k ++ once equal l
    once_apart k l h =
        once_append k l
        ∙ ap (λ (r : List A). once equal k ++ r) (keep_whole (fresh k) (once equal l) (λ x i. fresh_out k x (λ j. h x j (once_out l i))))

module _ {A B : Type 0} (same : A → A → Bool) (equal : B → B → Bool) where
  -- a map of a list: f makes two items equal exactly if they are
  pub once_map : (f : A → B) (l : List A) → ((x y : A) → Memᴰ x l → Memᴰ y l → equal (f x) (f y) ≡ same x y) → once equal (map f l) ≡ map f (once same l)
  unfolding once
  once_map f [] h = refl
  once_map f (x ∷ l) h =
      ap (λ (r : List B). f x ∷ others equal (f x) r) (once_map f l (λ y z i j. h y z (Memᴰ.tail i) (Memᴰ.tail j)))
      ∙ ap (λ (r : List B). f x ∷ r) (
      keep_map (λ y. not (equal (f x) y)) f (once same l)
      ∙ ap (map f) (keep_ext _ _ (once same l) (λ y i. ap not (h x y (Memᴰ.head refl) (Memᴰ.tail (once_out same l i))))))

  module _ (same_is : (x y : A) → (same x y ≡ true) ↔ (x ≡ y)) (Equal-is : (x y : B) → (equal x y ≡ true) ↔ (x ≡ y)) (g : A → List B) where
    -- what x has not, of lists that share nothing
    flat_others : (x : A) (l : List A) → ((y : A) → Memᴰ y l → (z : B) → Memᴰ z (g x) → Memᴰ z (g y) → x ≡ y)
        → keep (fresh equal (g x)) (flat_map (λ y. once equal (g y)) l) ≡ flat_map (λ y. once equal (g y)) (others same x l)
    unfolding flat_map
    flat_others x [] h = unfold keep in refl
    flat_others x (y ∷ l) h =
        keep_append (fresh equal (g x)) (once equal (g y)) (flat_map (λ y. once equal (g y)) l)
        ∙ ap (λ (r : List B). keep (fresh equal (g x)) (once equal (g y)) ++ r) (flat_others x l (λ w i. h w (Memᴰ.tail i)))
        ∙ go (same x y) refl
      where
        go : (b : Bool) → same x y ≡ b
            → keep (fresh equal (g x)) (once equal (g y)) ++ flat_map (λ w. once equal (g w)) (others same x l) ≡ flat_map (λ w. once equal (g w)) (others same x (y ∷ l))
        go true p = rw (
          keep_skip (λ w. not (same x w)) y l (ap not p),
          keep_empty (fresh equal (g x)) (once equal (g y)) (λ z i. fresh_in equal Equal-is (g x) (subst (λ (w : A). Memᴰ z (g w)) (sym ((same_is x y).0 p)) (once_out equal (g y) i))),
        )
        go false p = rw (
          keep_first (λ w. not (same x w)) y l (ap not p),
          keep_whole (fresh equal (g x)) (once equal (g y)) (λ z i. fresh_out equal Equal-is (g x) z (λ j. true≢false (sym ((same_is x y).1 (h y (Memᴰ.head refl) z j (once_out equal (g y) i))) ∙ p))),
        )

    -- lists one after another, which share nothing if they are not of the same item
    pub once_flat : (l : List A) → ((x y : A) → Memᴰ x l → Memᴰ y l → (z : B) → Memᴰ z (g x) → Memᴰ z (g y) → x ≡ y)
        → once equal (flat_map g l) ≡ flat_map (λ x. once equal (g x)) (once same l)
    unfolding flat_map once
    once_flat [] h = refl
    once_flat (x ∷ l) h =
        once_append equal Equal-is (g x) (flat_map g l)
        ∙ ap (λ (r : List B). once equal (g x) ++ r) (
        ap (keep (fresh equal (g x))) (once_flat l (λ y z i j. h y z (Memᴰ.tail i) (Memᴰ.tail j)))
        ∙ flat_others x (once same l) (λ y i. h x y (Memᴰ.head refl) (Memᴰ.tail (once_out same l i))))
