-- The sets of this crate and the variables that an update writes (the model's `written`).
use mathlib.Core.Path.{◌≡◌, refl, sym, ap, ap₂, ◌∙◌}
use mathlib.Core.Bool.{Bool, true, false, not, ◌&&◌}
use mathlib.Core.List.{List, [], ◌++◌, map, append-nil}
use Prim.Native.Nat.{ℕ, ◌<◌}
use native.Mathlib.Omega.{arith}
use lib.Dec.{eqb, leb}
use borrow.Author.Tests.{eqb-true, eq-eqb}
use Rattle.model.specs.Basic.{every, keep, member, same, count_up}
use Rattle.model.specs.Bounds.{max_variables, last_variable}
use Rattle.model.specs.Predicate.{Pred, words, mentions, written}
use Rattle.model.specs.Limits.{in_range, ascends}
use Rattle.model.specs.Table.{code, bit}
use Rattle.model.proofs.Tests.{both_ways}
use Rattle.model.proofs.Lists.{keep_append, member_keep, member_count, count_split, same_of, same_self}
use Rattle.model.proofs.Written.{ascending_kept}
use Rattle.table_tree.proofs.SetLaws.{bit_above, keep_alike}
use Rattle.table_writes.specs.Sets.{mask, cleared, all_variables, rest_of, written_set}
use Rattle.table_writes.proofs.MaskLaws.{mask_small, bit_mask, mask_same, mask_other, all_mask, rest_words, cleared_mask}

-- the bits of a set of variables are its items: a word has no others
kept_low : (f : ℕ → Bool) → keep (bit (mask f max_variables)) (count_up 0 max_variables) ≡ keep f (count_up 0 max_variables)
kept_low f = keep_alike (bit (mask f max_variables)) f 0 max_variables (λ k a b. bit_mask f max_variables k (omega arith))

kept_high : (f : ℕ → Bool) → keep (bit (mask f max_variables)) (count_up 48 16) ≡ []
unfolding keep count_up
kept_high f = keep_alike (bit (mask f max_variables)) (λ k. false) 48 16 (λ k a b. bit_above (mask f max_variables) max_variables k (mask_small f max_variables) (omega arith))

pub kept_bits : (f : ℕ → Bool) → keep (bit (mask f max_variables)) (count_up 0 64) ≡ keep f (count_up 0 max_variables)
kept_bits f =
    let g = bit (mask f max_variables) in
    ap (keep g) (count_split 0 48 16) ∙ keep_append g (count_up 0 48) (count_up 48 16) ∙
    ap₂ (λ (k l : List ℕ). k ++ l) (kept_low f) (kept_high f) ∙ append-nil (keep f (count_up 0 max_variables))

module _ (p : Pred) (h : every in_range (words p) ≡ true) where
  -- what an update's words leave of all variables, and what they take
  pub rest_pred : rest_of all_variables (map code (words p)) ≡ mask (λ k. not (mentions k p)) max_variables
  unfolding mentions
  rest_pred = rest_words (words p) h

  pub written_mask : written_set (map code (words p)) ≡ mask (λ k. mentions k p) max_variables
  unfolding written_set
  written_mask =
      let a = mask_other (λ k. mentions k p) max_variables in
      let r = rest_pred in
      let t = all_mask in
      omega arith

  -- so the set's bits are the variables that the update writes
  pub written_set_lem : keep (bit (written_set (map code (words p)))) (count_up 0 64) ≡ written p
  unfolding written
  written_set_lem = ap (λ s. keep (bit s) (count_up 0 64)) written_mask ∙ kept_bits (λ k. mentions k p)

not_same : (a b : Bool) → not a ≡ not b → a ≡ b
not_same true true h = refl
not_same true false h = sym h
not_same false true h = sym h
not_same false false h = refl

-- a rising list of variables is what an update writes if both leave the same of all variables
module _ (p : Pred) (list : List ℕ) (h : every in_range (words p) ≡ true) (rises : ascends 0 list ≡ true) (ranged : every (λ k. leb k last_variable) list ≡ true) where
  listed : cleared all_variables list ≡ rest_of all_variables (map code (words p)) → (k : ℕ) → k < max_variables → member k list ≡ mentions k p
  listed e k l =
      let both : mask (λ j. not (member j list)) max_variables ≡ mask (λ j. not (mentions j p)) max_variables = sym (cleared_mask list) ∙ e ∙ rest_pred p h in
      not_same (member k list) (mentions k p)
      (sym (bit_mask (λ j. not (member j list)) max_variables k l) ∙ ap (λ s. bit s k) both ∙ bit_mask (λ j. not (mentions j p)) max_variables k l)

  is_written : cleared all_variables list ≡ rest_of all_variables (map code (words p)) → list ≡ written p
  unfolding written
  is_written e =
      ascending_kept 0 list rises ranged ∙
      keep_alike (λ k. member k list) (λ k. mentions k p) 0 max_variables (λ k a b. listed e k (omega arith))

  leaves_same : list ≡ written p → cleared all_variables list ≡ rest_of all_variables (map code (words p))
  unfolding written
  leaves_same e =
      cleared_mask list ∙
      mask_same (λ k. not (member k list)) (λ k. not (mentions k p)) max_variables
      (λ k l. ap not (ap (member k) e ∙ member_keep (λ j. mentions j p) k (count_up 0 max_variables) ∙
      ap (λ b. b && mentions k p) (member_count k 0 max_variables (omega arith) (omega arith)))) ∙
      sym (rest_pred p h)

  pub same_written : eqb (cleared all_variables list) (rest_of all_variables (map code (words p))) ≡ same list (written p)
  same_written =
      both_ways (eqb (cleared all_variables list) (rest_of all_variables (map code (words p)))) (same list (written p))
      (λ e. ap (same list) (sym (is_written (eqb-true (cleared all_variables list) (rest_of all_variables (map code (words p))) e))) ∙ same_self list)
      (λ e. eq-eqb (cleared all_variables list) (rest_of all_variables (map code (words p))) (leaves_same (same_of list (written p) e)))
