-- Sets of variables as numbers and as lists: what holds of the one holds of the other.
use mathlib.Core.Path.{◌≡◌, refl, sym, ap, ◌∙◌}
use mathlib.Core.Bool.{Bool, true, false, not, ◌&&◌, and-true}
use mathlib.Core.List.{List, [], ◌∷◌}
use Prim.Native.Nat.{ℕ, ◌^◌, ◌<◌}
use native.Mathlib.Omega.{arith}
use native.Mathlib.Nat.{lt_of_le_of_lt}
use lib.Dec.{eqb}
use lib.Bits.{bit_and, and_le_l}
use lib.Pow.{pow_pos}
use borrow.Author.Tests.{eqb-true, eq-eqb}
use Rattle.model.specs.Basic.{every, keep, count_up}
use Rattle.model.specs.Table.{bit}
use Rattle.model.proofs.Tests.{not-false, both_ways}
use Rattle.model.proofs.Lists.{keep_keep}
use Rattle.table_tree.proofs.SetLaws.{keep_alike, every_kept, kept_all}
use Rattle.table_writes.specs.Sets.{mask}
use Rattle.table_writes.proofs.MaskLaws.{bit_mask}
use Rattle.judge_search.specs.Search.{is_covered}
use Rattle.judge_cover.proofs.BitLaws.{bit_and_lem, same_bits, no_bits}

-- the set, of variables below n, that a number stands for
abbrev pub list_of : (n u : ℕ) → List ℕ
list_of n u = keep (bit u) (count_up 0 n)

pub list_mask : (f : ℕ → Bool) (n : ℕ) → keep f (count_up 0 n) ≡ list_of n (mask f n)
list_mask f n = keep_alike f (bit (mask f n)) 0 n (λ k a b. sym (bit_mask f n k (omega arith)))

-- what is kept of a set, where r has the bits of what is kept
pub list_and : (g : ℕ → Bool) (n u r : ℕ) → ((k : ℕ) → k < n → bit r k ≡ g k) → keep g (list_of n u) ≡ list_of n (bit_and u r)
list_and g n u r h =
    keep_keep (bit u) g (count_up 0 n)
    ∙ keep_alike (λ k. bit u k && g k) (bit (bit_and u r)) 0 n (λ k a b. sym (bit_and_lem u r k ∙ ap (λ c. bit u k && c) (h k (omega arith))))

and_small : (n u r : ℕ) → u < 2 ^ n → bit_and u r < 2 ^ n
and_small n u r h = lt_of_le_of_lt (and_le_l u r) h

-- p holds of every variable of u if none of those is left of which it does not hold
every_left : (n u x : ℕ) (p : ℕ → Bool) → x < 2 ^ n → ((k : ℕ) → k < n → bit x k ≡ (bit u k && not (p k))) → eqb x 0 ≡ every p (list_of n u)
every_left n u x p small h = both_ways (eqb x 0) (every p (list_of n u)) to from
  where
    holds : (k : ℕ) → k < n → x ≡ 0 → bit u k ≡ true → p k ≡ true
    holds k l z e = not-false (p k) (ap (λ c. c && not (p k)) (sym e) ∙ sym (h k l) ∙ ap (λ y. bit y k) z ∙ no_bits k)

    to : eqb x 0 ≡ true → every p (list_of n u) ≡ true
    to z = every_kept (bit u) p 0 n (λ k a b e. holds k (omega arith) (eqb-true x 0 z) e)

    clear : (k : ℕ) (b : Bool) → bit u k ≡ b → (b ≡ true → p k ≡ true) → (bit u k && not (p k)) ≡ false
    clear k true e all = rw (e, all refl)
    clear k false e all = rw e

    from : every p (list_of n u) ≡ true → eqb x 0 ≡ true
    from r =
        let all = kept_all (bit u) p 0 n r in
        eq-eqb x 0 (same_bits n x 0 small (pow_pos n) (λ k l. h k l ∙ clear k (bit u k) refl (λ e. all k (omega arith) (omega arith) e) ∙ sym (no_bits k)))

covered_none : (l : List ℕ) → is_covered l ≡ every (λ k. false) l
unfolding is_covered every
covered_none [] = refl
covered_none (k ∷ l) = refl

pub mask_covered : (n u : ℕ) → u < 2 ^ n → eqb u 0 ≡ is_covered (list_of n u)
mask_covered n u small = every_left n u u (λ k. false) small (λ k l. sym (and-true (bit u k))) ∙ sym (covered_none (list_of n u))
