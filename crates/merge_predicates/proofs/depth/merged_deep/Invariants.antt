-- `merge_predicates::depth::merged_deep` meets its contract: from each turn on, the definition goes on to the same
-- answer.
use mathlib.Core.Path.{◌≡◌}
use Prim.Native.Nat.{◌-◌}
use Rattle.merge_predicates.specs.Depths.{values_deeper}
use Rattle.merge_predicates.proofs.depth.merged_deep.Given as goal

abbrev pub invariant-loop-i : goal.invariant-loop-i
invariant-loop-i l = values_deeper l.t 22 l.places l.i (l.count - l.i) ≡ values_deeper l.t 22 l.places 0 l.count
