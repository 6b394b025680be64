-- `merge_predicates::depth::depth_at` calls itself, and meets its contract: the operands so far, and those to come. The
-- measure is the depth left.
use mathlib.Core.Path.{◌≡◌}
use Prim.Native.Nat.{◌-◌}
use lib.ListN.{get_or}
use Rattle.table_places.specs.Outline.{reach}
use Rattle.merge_predicates.specs.Depths.{operands_of, deepest, depth_at}
use Rattle.merge_predicates.proofs.depth.+depth_at.Given as goal

abbrev pub decreases-depth_at : goal.decreases-depth_at
decreases-depth_at l = l.left

abbrev pub invariant-loop : goal.invariant-loop
invariant-loop l =
    deepest (depth_at l.t (l.left - 1)) (l.operands - l.counter) l.next l.deepest
    ≡ deepest (depth_at l.t (l.left - 1)) (operands_of (get_or l.t l.at 0)) (reach l.t l.at 1) 0
