-- `merge_moves::picking::PlannedTree::pick` calls itself, and meets its contract: each way out is a law of PickLaws.
-- The
-- measure is the nodes left.
use Rattle.merge_moves.proofs.picking.PlannedTree.+pick.Given as goal

abbrev pub decreases-pick : goal.decreases-pick
decreases-pick l = l.left
