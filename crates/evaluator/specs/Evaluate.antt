-- What the evaluator answers on any words. On the words of a lawful predicate it is what the predicate means: the law
-- evaluate_lawful.
use Rattle.std.specs.Prelude.{Bool, true, false, not, cond, ◌&&◌, ◌||◌, List, ℕ, zero, suc, ◌+◌, ℤ, pos, ◌+ℤ◌, ◌-ℤ◌}
use Rattle.std.specs.Prelude.{◌*ℤ◌, length, get_or, ltb}
use Rattle.std.specs.Int.Signed.{le_z}
use Rattle.model.specs.Basic.{eq_z}
use Rattle.model.specs.Bounds.{max_nodes}
use Rattle.model.specs.Predicate.{Word, all_of, any_of, not_word, imp_word, eq_word, le_word, num_word, old_word}
use Rattle.model.specs.Predicate.{new_word}
use Rattle.model.specs.Predicate.{add_word, sub_word, mul_word, if_word, stray}
use Rattle.model.specs.Table.{word_of}
use Rattle.arithmetic.specs.Cut.{cut}
use Rattle.evaluator.specs.declared.nodes.Truth.{Truth}
use Rattle.evaluator.specs.declared.nodes.Value.{Value}
use Rattle.evaluator.specs.declared.nodes.Gathered.{Gathered}
use Rattle.evaluator.specs.declared.nodes.Pair.{Pair}

-- an answer, where the words after it begin, and how many nodes are left then
abbrev pub truth : Bool → (next left : ℕ) → Truth
truth b next left = record { holds = b; next = next; left = left }

abbrev pub valued : ℤ → (next left : ℕ) → Value
valued z next left = record { number = z; next = next; left = left }

abbrev pub gathered : (all any : Bool) (next left : ℕ) → Gathered
gathered all any next left = record { all = all; any = any; next = next; left = left }

abbrev pub paired : (first second : ℤ) (next left : ℕ) → Pair
paired first second next left = record { first = first; second = second; next = next; left = left }

-- Below, P reads the predicate at a place with so many nodes left, and E the expression. Each operand gets what the one
-- before it has left.
abbrev pub Predicates : Type 0
Predicates = (left at : ℕ) → Truth

abbrev pub Expressions : Type 0
Expressions = (left at : ℕ) → Value

-- `count` predicates in a row
unfoldable pub gather : (P : Predicates) → (count left at : ℕ) (all any : Bool) → Gathered
gather P zero left at all any = gathered all any at left
gather P (suc n) left at all any =
    let p = P left at in
    gather P n p.left p.next (all && p.holds) (any || p.holds)

-- the operands of `imp`; two expressions in a row; the operands of `if`
unfoldable pub implication : (P : Predicates) → (left at : ℕ) → Truth
implication P left at =
    let p = P left at in
    let q = P p.left p.next in
    truth (not p.holds || q.holds) q.next q.left

unfoldable pub numbers : (E : Expressions) → (left at : ℕ) → Pair
numbers E left at =
    let x = E left at in
    let y = E x.left x.next in
    paired x.number y.number y.next y.left

unfoldable pub choice : (P : Predicates) (E : Expressions) → (left at : ℕ) → Value
choice P E left at =
    let p = P left at in
    let n = numbers E p.left p.next in
    valued (cond p.holds n.first n.second) n.next n.left

-- two expressions, compared or joined
abbrev pub compared : (ℤ → ℤ → Bool) → Pair → Truth
compared f n = truth (f n.first n.second) n.next n.left

abbrev pub computed : (ℤ → ℤ → ℤ) → Pair → Value
computed f n = valued (cut (f n.first n.second)) n.next n.left

-- the predicate that begins with a word and whose operands stand from `at` on; no predicate begins with the later words
unfoldable pub predicate_by : (P : Predicates) (E : Expressions) → Word → (left at : ℕ) → Truth
predicate_by P E (all_of k) left at = let r = gather P k left at true false in truth r.all r.next r.left
predicate_by P E (any_of k) left at = let r = gather P k left at true false in truth r.any r.next r.left
predicate_by P E not_word left at = let p = P left at in truth (not p.holds) p.next p.left
predicate_by P E imp_word left at = implication P left at
predicate_by P E eq_word left at = compared eq_z (numbers E left at)
predicate_by P E le_word left at = compared le_z (numbers E left at)
predicate_by P E (num_word z) left at = truth false at left
predicate_by P E (old_word k) left at = truth false at left
predicate_by P E (new_word k) left at = truth false at left
predicate_by P E add_word left at = truth false at left
predicate_by P E sub_word left at = truth false at left
predicate_by P E mul_word left at = truth false at left
predicate_by P E if_word left at = truth false at left
predicate_by P E stray left at = truth false at left

-- the same for expressions, given the values before and after a step; no expression begins with the first words or the
-- last
unfoldable pub expression_by : (P : Predicates) (E : Expressions) (before after : List ℤ) → Word → (left at : ℕ) → Value
expression_by P E before after (all_of k) left at = valued (pos 0) at left
expression_by P E before after (any_of k) left at = valued (pos 0) at left
expression_by P E before after not_word left at = valued (pos 0) at left
expression_by P E before after imp_word left at = valued (pos 0) at left
expression_by P E before after eq_word left at = valued (pos 0) at left
expression_by P E before after le_word left at = valued (pos 0) at left
expression_by P E before after (num_word z) left at = valued z at left
expression_by P E before after (old_word k) left at = valued (get_or before k (pos 0)) at left
expression_by P E before after (new_word k) left at = valued (get_or after k (pos 0)) at left
expression_by P E before after add_word left at = computed ◌+ℤ◌ (numbers E left at)
expression_by P E before after sub_word left at = computed ◌-ℤ◌ (numbers E left at)
expression_by P E before after mul_word left at = computed ◌*ℤ◌ (numbers E left at)
expression_by P E before after if_word left at = choice P E left at
expression_by P E before after stray left at = valued (pos 0) at left

-- The predicate, or the expression, at `at`, with `left` nodes left: its own word uses one. Where none is left, none is
-- read.
module _ (words : List ℕ) (before after : List ℤ) where
  unfoldable pub predicate_step : (P : Predicates) (E : Expressions) → (left at : ℕ) → Truth
  predicate_step P E zero at = truth false at 0
  predicate_step P E (suc n) at =
      elim (ltb at (length words)) [
        | false ↦ truth false at n
        | true ↦ predicate_by P E (word_of (get_or words at 0)) n (at + 1)
      ]

  unfoldable pub expression_step : (P : Predicates) (E : Expressions) → (left at : ℕ) → Value
  expression_step P E zero at = valued (pos 0) at 0
  expression_step P E (suc n) at =
      elim (ltb at (length words)) [
        | false ↦ valued (pos 0) at n
        | true ↦ expression_by P E before after (word_of (get_or words at 0)) n (at + 1)
      ]

  -- with calls nested at most `deep`
  unfoldable mutual
    pub predicate_within : (deep left at : ℕ) → Truth
    predicate_within zero left at = truth false at left
    predicate_within (suc d) left at =
        predicate_step (λ l a. predicate_within d l a) (λ l a. expression_within d l a) left at

    pub expression_within : (deep left at : ℕ) → Value
    expression_within zero left at = valued (pos 0) at left
    expression_within (suc d) left at =
        expression_step (λ l a. predicate_within d l a) (λ l a. expression_within d l a) left at

  -- Calls cannot nest deeper than there are nodes, so these are steps of themselves: the laws predicate_is and
  -- expression_is.
  unfoldable pub predicate_at : (left at : ℕ) → Truth
  predicate_at left at = predicate_within left left at

  unfoldable pub expression_at : (left at : ℕ) → Value
  expression_at left at = expression_within left left at

  -- no sheet has more nodes than `max_nodes`
  unfoldable pub evaluate : (at : ℕ) → Bool
  evaluate at = (predicate_at max_nodes at).holds
