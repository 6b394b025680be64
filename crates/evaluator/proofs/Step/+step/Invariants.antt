-- The evaluator's functions call each other, and meet their contracts together: each way out is a law of NodeLaws.
-- The measure: three times the nodes left, one more for operands in a row, which pass their own on to the first of
-- them, and two more for `if`.
use Prim.Native.Nat.{◌+◌, ◌-◌, ◌*◌, ◌≤◌}
use mathlib.Core.Path.{◌≡◌}
use mathlib.Core.Bool.{true, false}
use Rattle.evaluator.specs.Evaluate.{predicate_at, gather}
use Rattle.evaluator.proofs.Step.+step.Given as goal

abbrev pub decreases-choice : goal.decreases-choice
decreases-choice l = 3 * l.left + 2

abbrev pub decreases-expression : goal.decreases-expression
decreases-expression l = 3 * l.left

abbrev pub decreases-implication : goal.decreases-implication
decreases-implication l = 3 * l.left + 1

abbrev pub decreases-numbers : goal.decreases-numbers
decreases-numbers l = 3 * l.left + 1

abbrev pub decreases-operands : goal.decreases-operands
decreases-operands l = 3 * l.left + 1

abbrev pub decreases-predicate : goal.decreases-predicate
decreases-predicate l = 3 * l.left

abbrev pub invariant-operands-loop : goal.invariant-operands-loop
invariant-operands-loop l =
    let P = predicate_at l.self.words.now l.self.before.now l.self.after.now in
    (l.rest ≤ l.left)
    × (gather P (l.count - l.counter) l.rest l.next l.all l.any ≡ gather P l.count l.left l.at true false)
