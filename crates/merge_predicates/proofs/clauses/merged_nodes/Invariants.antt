-- `merge_predicates::clauses::merged_nodes` meets its contract: from each turn on, the definition goes on to the same
-- sum.
use mathlib.Core.Path.{◌≡◌}
use Prim.Native.Nat.{◌-◌}
use Rattle.merge_predicates.specs.Clauses.{value_nodes}
use Rattle.merge_predicates.proofs.clauses.merged_nodes.Given as goal

abbrev pub invariant-loop-i : goal.invariant-loop-i
invariant-loop-i l =
    value_nodes l.t l.places l.i (l.count - l.i) l.sum ≡ value_nodes l.t l.places 0 l.count 1
