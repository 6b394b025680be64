-- How many nodes the evaluator reads, on any words: the calls that use a node, counted along the definitions of
-- Evaluate. They are as many as the count of nodes left falls by: the laws reads_exact and reads_bounded.
use Rattle.std.specs.Prelude.{true, false, List, ℕ, zero, suc, ◌+◌, ℤ, length, get_or, ltb}
use Rattle.model.specs.Predicate.{Word, all_of, any_of, not_word, imp_word, eq_word, le_word, num_word, old_word}
use Rattle.model.specs.Predicate.{new_word}
use Rattle.model.specs.Predicate.{add_word, sub_word, mul_word, if_word, stray}
use Rattle.model.specs.Table.{word_of}
use Rattle.evaluator.specs.Evaluate.{Predicates, Expressions, predicate_within, expression_within}

-- the nodes read by a call at a place with so many nodes left
abbrev pub Reads : Type 0
Reads = (left at : ℕ) → ℕ

-- P and E read so many: p, e
module _ (P : Predicates) (E : Expressions) (p e : Reads) where
  unfoldable pub row_reads : (count left at : ℕ) → ℕ
  row_reads zero left at = 0
  row_reads (suc n) left at = p left at + row_reads n (P left at).left (P left at).next

  unfoldable pub pair_reads : Reads
  pair_reads left at = e left at + e (E left at).left (E left at).next

  -- the operands of a node
  unfoldable pub predicate_reads : Word → Reads
  predicate_reads (all_of k) left at = row_reads k left at
  predicate_reads (any_of k) left at = row_reads k left at
  predicate_reads not_word left at = p left at
  predicate_reads imp_word left at = p left at + p (P left at).left (P left at).next
  predicate_reads eq_word left at = pair_reads left at
  predicate_reads le_word left at = pair_reads left at
  predicate_reads (num_word z) left at = 0
  predicate_reads (old_word k) left at = 0
  predicate_reads (new_word k) left at = 0
  predicate_reads add_word left at = 0
  predicate_reads sub_word left at = 0
  predicate_reads mul_word left at = 0
  predicate_reads if_word left at = 0
  predicate_reads stray left at = 0

  unfoldable pub expression_reads : Word → Reads
  expression_reads (all_of k) left at = 0
  expression_reads (any_of k) left at = 0
  expression_reads not_word left at = 0
  expression_reads imp_word left at = 0
  expression_reads eq_word left at = 0
  expression_reads le_word left at = 0
  expression_reads (num_word z) left at = 0
  expression_reads (old_word k) left at = 0
  expression_reads (new_word k) left at = 0
  expression_reads add_word left at = pair_reads left at
  expression_reads sub_word left at = pair_reads left at
  expression_reads mul_word left at = pair_reads left at
  expression_reads if_word left at = p left at + pair_reads (P left at).left (P left at).next
  expression_reads stray left at = 0

-- and the node itself, which uses one also where the words have ended
unfoldable pub step_reads : (words : List ℕ) (operands : Word → Reads) → Reads
step_reads words operands zero at = 0
step_reads words operands (suc n) at =
    elim (ltb at (length words)) [ false ↦ 1 | true ↦ suc (operands (word_of (get_or words at 0)) n (at + 1)) ]

module _ (words : List ℕ) (before after : List ℤ) where
  abbrev pub P : ℕ → Predicates
  P = predicate_within words before after

  abbrev pub E : ℕ → Expressions
  E = expression_within words before after

  -- with calls nested at most `deep`
  unfoldable mutual
    pub predicate_uses : (deep left at : ℕ) → ℕ
    predicate_uses zero left at = 0
    predicate_uses (suc d) left at =
        let p : Reads = λ l a. predicate_uses d l a in
        let e : Reads = λ l a. expression_uses d l a in
        step_reads words (predicate_reads (P d) (E d) p e) left at

    pub expression_uses : (deep left at : ℕ) → ℕ
    expression_uses zero left at = 0
    expression_uses (suc d) left at =
        let p : Reads = λ l a. predicate_uses d l a in
        let e : Reads = λ l a. expression_uses d l a in
        step_reads words (expression_reads (P d) (E d) p e) left at
