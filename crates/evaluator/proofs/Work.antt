-- The evaluator reads, on any words, as many nodes as the count of nodes left falls by, so never more than it was
-- given.
use mathlib.Core.Path.{◌≡◌, refl}
use mathlib.Core.Bool.{Bool, true, false, ◌&&◌, ◌||◌}
use mathlib.Core.List.{List}
use Prim.Native.Nat.{ℕ, zero, suc, ◌+◌, ◌≤◌}
use native.Mathlib.Omega.{arith}
use lib.IntN.{ℤ}
use lib.ListN.{length, get_or}
use lib.Dec.{ltb}
use Rattle.model.specs.Bounds.{max_nodes}
use Rattle.model.specs.Predicate.{Word, all_of, any_of, not_word, imp_word, eq_word, le_word, num_word, old_word, new_word, add_word, sub_word, mul_word, if_word, stray}
use Rattle.model.specs.Table.{word_of}
use Rattle.evaluator.specs.Evaluate.{Predicates, Expressions, gather, implication, numbers, choice, predicate_by, expression_by, predicate_step, expression_step, predicate_within, expression_within}
use Rattle.evaluator.specs.Work.{Reads, row_reads, pair_reads, predicate_reads, expression_reads, step_reads, predicate_uses, expression_uses}

-- what is read and what is left are what was given
record Exact (P : Predicates) (E : Expressions) (p e : Reads) : Type 0 where
  predicates : (left at : ℕ) → p left at + (P left at).left ≡ left
  expressions : (left at : ℕ) → e left at + (E left at).left ≡ left

module _ (P : Predicates) (E : Expressions) (p e : Reads) (x : Exact P E p e) where
  row_exact : (count left at : ℕ) (all any : Bool) → row_reads P E p e count left at + (gather P count left at all any).left ≡ left
  unfolding row_reads gather
  row_exact zero left at all any = omega arith
  row_exact (suc n) left at all any =
      let t = P left at in
      omega (arith, x.predicates left at, row_exact n t.left t.next (all && t.holds) (any || t.holds))

  pair_exact : (left at : ℕ) → pair_reads P E p e left at + (numbers E left at).left ≡ left
  unfolding pair_reads numbers
  pair_exact left at =
      let v = E left at in
      omega (arith, x.expressions left at, x.expressions v.left v.next)

  predicate_exact : (w : Word) (left at : ℕ) → predicate_reads P E p e w left at + (predicate_by P E w left at).left ≡ left
  unfolding predicate_reads predicate_by implication
  predicate_exact (all_of k) left at = row_exact k left at true false
  predicate_exact (any_of k) left at = row_exact k left at true false
  predicate_exact not_word left at = x.predicates left at
  predicate_exact imp_word left at =
      let t = P left at in
      omega (arith, x.predicates left at, x.predicates t.left t.next)
  predicate_exact eq_word left at = pair_exact left at
  predicate_exact le_word left at = pair_exact left at
  predicate_exact (num_word z) left at = omega arith
  predicate_exact (old_word k) left at = omega arith
  predicate_exact (new_word k) left at = omega arith
  predicate_exact add_word left at = omega arith
  predicate_exact sub_word left at = omega arith
  predicate_exact mul_word left at = omega arith
  predicate_exact if_word left at = omega arith
  predicate_exact stray left at = omega arith

  expression_exact : (before after : List ℤ) (w : Word) (left at : ℕ) → expression_reads P E p e w left at + (expression_by P E before after w left at).left ≡ left
  unfolding expression_reads expression_by choice
  expression_exact before after (all_of k) left at = omega arith
  expression_exact before after (any_of k) left at = omega arith
  expression_exact before after not_word left at = omega arith
  expression_exact before after imp_word left at = omega arith
  expression_exact before after eq_word left at = omega arith
  expression_exact before after le_word left at = omega arith
  expression_exact before after (num_word z) left at = omega arith
  expression_exact before after (old_word k) left at = omega arith
  expression_exact before after (new_word k) left at = omega arith
  expression_exact before after add_word left at = pair_exact left at
  expression_exact before after sub_word left at = pair_exact left at
  expression_exact before after mul_word left at = pair_exact left at
  expression_exact before after if_word left at =
      let t = P left at in
      omega (arith, x.predicates left at, pair_exact t.left t.next)
  expression_exact before after stray left at = omega arith

  module _ (words : List ℕ) (before after : List ℤ) where
    step_exact_p : (left at : ℕ) → step_reads words (predicate_reads P E p e) left at + (predicate_step words before after P E left at).left ≡ left
    unfolding step_reads predicate_step
    step_exact_p zero at = omega arith
    step_exact_p (suc n) at = go (ltb at (length words)) refl
      where
        go : (b : Bool) → ltb at (length words) ≡ b → step_reads words (predicate_reads P E p e) (suc n) at + (predicate_step words before after P E (suc n) at).left ≡ suc n
        go false h = rw (h, step_reads, predicate_step) (omega arith)
        go true h = rw (h, step_reads, predicate_step) (omega (arith, predicate_exact (word_of (get_or words at 0)) n (at + 1)))

    step_exact_e : (left at : ℕ) → step_reads words (expression_reads P E p e) left at + (expression_step words before after P E left at).left ≡ left
    unfolding step_reads expression_step
    step_exact_e zero at = omega arith
    step_exact_e (suc n) at = go (ltb at (length words)) refl
      where
        go : (b : Bool) → ltb at (length words) ≡ b → step_reads words (expression_reads P E p e) (suc n) at + (expression_step words before after P E (suc n) at).left ≡ suc n
        go false h = rw (h, step_reads, expression_step) (omega arith)
        go true h = rw (h, step_reads, expression_step) (omega (arith, expression_exact before after (word_of (get_or words at 0)) n (at + 1)))

module _ (words : List ℕ) (before after : List ℤ) where
  within_exact : (deep : ℕ) → Exact (predicate_within words before after deep) (expression_within words before after deep) (predicate_uses words before after deep) (expression_uses words before after deep)
  unfolding predicate_uses expression_uses predicate_within expression_within
  within_exact zero = record { predicates = λ left at. omega arith; expressions = λ left at. omega arith }
  within_exact (suc d) = record {
    predicates = λ left at. step_exact_p _ _ _ _ (within_exact d) words before after left at;
    expressions = λ left at. step_exact_e _ _ _ _ (within_exact d) words before after left at;
  }

  -- the nodes read, by calls nested however deep, and those left are together what was given
  pub reads_exact : (deep left at : ℕ) → predicate_uses words before after deep left at + (predicate_within words before after deep left at).left ≡ left
  reads_exact deep left at = (within_exact deep).predicates left at

  -- so `holds` reads at most `max_nodes` nodes, whatever the words are
  pub reads_bounded : (at : ℕ) → predicate_uses words before after max_nodes max_nodes at ≤ max_nodes
  reads_bounded at = omega (arith, reads_exact max_nodes max_nodes at)
