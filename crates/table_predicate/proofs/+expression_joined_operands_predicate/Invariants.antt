-- The four functions of the walk call each other, and meet their contracts together. The measure: twice the depth left, and
-- one more for a row of operands, or two expressions, which pass their own on to each of them. Each way out of a function is one step of the definition.
use Prim.Native.Nat.{◌+◌, ◌-◌, ◌*◌}
use mathlib.Core.Path.{◌≡◌}
use Rattle.table_predicate.specs.Walk.{predicate_at, gather}
use Rattle.table_predicate.proofs.+expression_joined_operands_predicate.Given as goal

abbrev pub decreases-expression : goal.decreases-expression
decreases-expression l = 2 * l.left

abbrev pub decreases-joined : goal.decreases-joined
decreases-joined l = 2 * l.left + 1

abbrev pub decreases-operands : goal.decreases-operands
decreases-operands l = 2 * l.left + 1

abbrev pub decreases-predicate : goal.decreases-predicate
decreases-predicate l = 2 * l.left

abbrev pub invariant-operands-loop : goal.invariant-operands-loop
invariant-operands-loop l =
    gather (predicate_at l.words l.ranges l.left) (l.count - l.counter) l.walk ≡ gather (predicate_at l.words l.ranges l.left) l.count l.initial.walk
