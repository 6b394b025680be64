-- Sets as bits: what a bit of a set says, a number taken out, and what a predicate's node words leave of a set.
use mathlib.Core.Path.{◌≡◌, refl, sym, ap, ◌∙◌}
use mathlib.Core.Bool.{Bool, true, false, not, ◌&&◌, ◌||◌, and-true, and-false}
use mathlib.Core.List.{List, [], ◌∷◌, map}
use Prim.Native.Nat.{ℕ, zero, suc, ◌+◌, ◌-◌, ◌*◌, ◌^◌, ◌<◌}
use native.Mathlib.Omega.{arith}
use native.Mathlib.Nat.{pow-succ'}
use lib.Dec.{eqb, leb, ltb}
use borrow.Author.Tests.{leb-true, leb-false, eqb-true, eq-eqb, ltb-true, ltb-false}
use Rattle.model.specs.Basic.{every, exists, member}
use Rattle.model.specs.Bounds.{max_variables}
use Rattle.model.specs.Predicate.{Word, Named, nothing, the_old, the_new, named, is_new_of}
use Rattle.model.specs.Limits.{in_range}
use Rattle.model.specs.Table.{code, bit}
use Rattle.model.proofs.Tests.{and_left, and_right}
use Rattle.model.proofs.Decode.{word_back}
use Rattle.table_tree.proofs.SetLaws.{bit_above}
use Rattle.table_writes.specs.Sets.{mask, clear, cleared, all_variables, left_out, rest_of}
use Rattle.table_writes.proofs.BitLaws.{bit_under, bit_top}

-- the bits of a mask are the numbers below n of which f holds
pub mask_small : (f : ℕ → Bool) (n : ℕ) → mask f n < 2 ^ n
unfolding mask
mask_small f zero = omega arith
mask_small f (suc n) = go (f n) (mask_small f n) (pow-succ' 2 n)
  where
    go : (b : Bool) → mask f n < 2 ^ n → 2 ^ suc n ≡ 2 * 2 ^ n → elim b as (λ c. ℕ) [ true ↦ 2 ^ n + mask f n | false ↦ mask f n ] < 2 ^ suc n
    go true s p = omega arith
    go false s p = omega arith

pub bit_mask : (f : ℕ → Bool) (n k : ℕ) → k < n → bit (mask f n) k ≡ f k
unfolding mask
bit_mask f zero k l = absurd (omega arith)
bit_mask f (suc n) k l = go (f n) refl (ltb k n) refl (λ h. bit_mask f n k h)
  where
    top : ltb k n ≡ false → k ≡ n
    top h = let g = ltb-false k n h in omega arith

    go : (b : Bool) → f n ≡ b → (c : Bool) → ltb k n ≡ c → (k < n → bit (mask f n) k ≡ f k)
        → bit (elim b as (λ c. ℕ) [ true ↦ 2 ^ n + mask f n | false ↦ mask f n ]) k ≡ f k
    go true e true h ih = bit_under (mask f n) n k (ltb-true k n h) ∙ ih (ltb-true k n h)
    go true e false h ih = rw (top h) (bit_top (mask f n) n (mask_small f n) ∙ sym e)
    go false e true h ih = ih (ltb-true k n h)
    go false e false h ih = rw (top h) (bit_above (mask f n) n n (mask_small f n) (omega arith) ∙ sym e)

-- a set by its highest number
module _ (f : ℕ → Bool) (n : ℕ) where
  mask_in : f n ≡ true → mask f (suc n) ≡ 2 ^ n + mask f n
  unfolding mask
  mask_in e = rw (e, mask)

  mask_out : f n ≡ false → mask f (suc n) ≡ mask f n
  unfolding mask
  mask_out e = rw (e, mask)

pub mask_same : (f g : ℕ → Bool) (n : ℕ) → ((k : ℕ) → k < n → f k ≡ g k) → mask f n ≡ mask g n
mask_same f g zero h = unfold mask in refl
mask_same f g (suc n) h = go (f n) refl (h n (omega arith)) (mask_same f g n (λ k l. h k (omega arith)))
  where
    go : (b : Bool) → f n ≡ b → f n ≡ g n → mask f n ≡ mask g n → mask f (suc n) ≡ mask g (suc n)
    go true e s ih = mask_in f n e ∙ ap (λ m. 2 ^ n + m) ih ∙ sym (mask_in g n (sym s ∙ e))
    go false e s ih = mask_out f n e ∙ ih ∙ sym (mask_out g n (sym s ∙ e))

-- a set without a number
abbrev without : (ℕ → Bool) → ℕ → ℕ → Bool
without f k j = f j && not (eqb j k)

without_other : (f : ℕ → Bool) (k j : ℕ) → (j ≡ k → f j ≡ false) → without f k j ≡ f j
without_other f k j h = go (eqb j k) refl
  where
    go : (b : Bool) → eqb j k ≡ b → without f k j ≡ f j
    go true e = rw (e, h (eqb-true j k e))
    go false e = rw (e, and-true (f j))

mask_without : (f : ℕ → Bool) (n k : ℕ) → k < n → f k ≡ true → mask f n ≡ 2 ^ k + mask (without f k) n
mask_without f zero k h e = absurd (omega arith)
mask_without f (suc n) k h e = go (leb n k) refl (f n) refl (λ l. mask_without f n k l e)
  where
    go : (c : Bool) → leb n k ≡ c → (b : Bool) → f n ≡ b → (k < n → mask f n ≡ 2 ^ k + mask (without f k) n) → mask f (suc n) ≡ 2 ^ k + mask (without f k) (suc n)
    go true l b g ih =
        let m = leb-true n k l in
        let z : n ≡ k = omega arith in
        let gone : without f k n ≡ false = rw (eq-eqb n k z, and-false) in
        let rest : mask (without f k) n ≡ mask f n = mask_same (without f k) f n (λ j i. without_other f k j (λ q. absurd (omega arith))) in
        mask_in f n (ap f z ∙ e) ∙ rw (mask_out (without f k) n gone, rest, z)
    go false l true g ih =
        let m = leb-false n k l in
        let stays : without f k n ≡ true = without_other f k n (λ q. absurd (omega arith)) ∙ g in
        let a = mask_in f n g in
        let b = mask_in (without f k) n stays in
        let i = ih m in
        omega arith
    go false l false g ih =
        let m = leb-false n k l in
        let stays : without f k n ≡ false = without_other f k n (λ q. absurd (omega arith)) ∙ g in
        mask_out f n g ∙ ih m ∙ ap (λ w. 2 ^ k + w) (sym (mask_out (without f k) n stays))

clear_in : (s k : ℕ) → bit s k ≡ true → clear s k ≡ s - 2 ^ k
unfolding clear
clear_in s k e = rw (e, clear)

clear_out : (s k : ℕ) → bit s k ≡ false → clear s k ≡ s
unfolding clear
clear_out s k e = rw (e, clear)

clear_mask : (f : ℕ → Bool) (n k : ℕ) → clear (mask f n) k ≡ mask (without f k) n
clear_mask f n k = go (leb n k) refl (f k) refl
  where
    go : (c : Bool) → leb n k ≡ c → (b : Bool) → f k ≡ b → clear (mask f n) k ≡ mask (without f k) n
    go true l b e =
        let m = leb-true n k l in
        clear_out (mask f n) k (bit_above (mask f n) n k (mask_small f n) m) ∙
        sym (mask_same (without f k) f n (λ j i. without_other f k j (λ z. absurd (omega arith))))
    go false l true e =
        let m = leb-false n k l in
        let w = mask_without f n k m e in
        clear_in (mask f n) k (bit_mask f n k m ∙ e) ∙ omega arith
    go false l false e =
        let m = leb-false n k l in
        clear_out (mask f n) k (bit_mask f n k m ∙ e) ∙
        sym (mask_same (without f k) f n (λ j i. without_other f k j (λ z. ap f z ∙ e)))

-- One node word: the words other than `nK` leave the set as it is.
abbrev unnamed : (ℕ → Bool) → Word → ℕ → Bool
unnamed f w j = f j && not (is_new_of j (named w))

module _ (f : ℕ → Bool) (n : ℕ) where
  all_stay : mask f n ≡ mask (λ j. f j && true) n
  all_stay = mask_same f (λ j. f j && true) n (λ j l. sym (and-true (f j)))

  by_name : (x : Named) → elim x as (λ y. ℕ) [ nothing ↦ mask f n | the_old k ↦ mask f n | the_new k ↦ clear (mask f n) k ] ≡ mask (λ j. f j && not (is_new_of j x)) n
  unfolding is_new_of
  by_name nothing = all_stay
  by_name (the_old k) = all_stay
  by_name (the_new k) = clear_mask f n k

  out_word : (w : Word) → in_range w ≡ true → left_out (mask f n) (code w) ≡ mask (unnamed f w) n
  unfolding left_out
  out_word w h = rw (word_back w h, left_out) (by_name (named w))

-- all words: what is left are the numbers that none of them names
left_both : (a b c : Bool) → ((a && not b) && not c) ≡ (a && not (b || c))
left_both true true c = refl
left_both true false c = refl
left_both false b c = refl

out_words : (n : ℕ) (ws : List Word) (f : ℕ → Bool) → every in_range ws ≡ true → rest_of (mask f n) (map code ws) ≡ mask (λ j. f j && not (exists (λ w. is_new_of j (named w)) ws)) n
unfolding rest_of exists every
out_words n [] f h = all_stay f n
out_words n (w ∷ ws) f h =
    ap (λ s. rest_of s (map code ws)) (out_word f n w (and_left (in_range w) (every in_range ws) h)) ∙
    out_words n ws (unnamed f w) (and_right (in_range w) (every in_range ws) h) ∙
    mask_same (λ j. unnamed f w j && not (exists (λ v. is_new_of j (named v)) ws)) (λ j. f j && not (exists (λ v. is_new_of j (named v)) (w ∷ ws))) n
    (λ j l. left_both (f j) (is_new_of j (named w)) (exists (λ v. is_new_of j (named v)) ws))

-- so of all 48 variables the words leave those whose new values none of them names
pub all_mask : all_variables ≡ mask (λ k. true) max_variables
unfolding mask
all_mask = refl

pub rest_words : (ws : List Word) → every in_range ws ≡ true → rest_of all_variables (map code ws) ≡ mask (λ k. not (exists (λ w. is_new_of k (named w)) ws)) max_variables
rest_words ws h = ap (λ s. rest_of s (map code ws)) all_mask ∙ out_words max_variables ws (λ k. true) h

-- a list's items taken out of a set, and of all variables
pub out_list : (n : ℕ) (list : List ℕ) (f : ℕ → Bool) → cleared (mask f n) list ≡ mask (λ j. f j && not (member j list)) n
unfolding cleared member exists
out_list n [] f = all_stay f n
out_list n (k ∷ ks) f =
    ap (λ s. cleared s ks) (clear_mask f n k) ∙ out_list n ks (without f k) ∙
    mask_same (λ j. without f k j && not (member j ks)) (λ j. f j && not (member j (k ∷ ks))) n (λ j l. left_both (f j) (eqb j k) (member j ks))

pub cleared_mask : (list : List ℕ) → cleared all_variables list ≡ mask (λ k. not (member k list)) max_variables
cleared_mask list = ap (λ s. cleared s list) all_mask ∙ out_list max_variables list (λ k. true)

-- a set and the others of the numbers below n are all of them
pub mask_other : (f : ℕ → Bool) (n : ℕ) → mask f n + mask (λ k. not (f k)) n ≡ mask (λ k. true) n
mask_other f zero = unfold mask in refl
mask_other f (suc n) = go (f n) refl (mask_other f n)
  where
    go : (b : Bool) → f n ≡ b → mask f n + mask (λ k. not (f k)) n ≡ mask (λ k. true) n
        → mask f (suc n) + mask (λ k. not (f k)) (suc n) ≡ mask (λ k. true) (suc n)
    go true e ih =
        let a = mask_in f n e in
        let o = mask_out (λ k. not (f k)) n (ap not e) in
        let t = mask_in (λ k. true) n refl in
        omega arith
    go false e ih =
        let a = mask_out f n e in
        let o = mask_in (λ k. not (f k)) n (ap not e) in
        let t = mask_in (λ k. true) n refl in
        omega arith
