-- `merge_moves::planning::Planning::plan` calls itself, and meets its contract: each way out is two laws of PlanLaws,
-- of
-- the answer and of the cells. The measure is the nodes left.
use Rattle.merge_moves.proofs.planning.Planning.+plan.Given as goal

abbrev pub decreases-plan : goal.decreases-plan
decreases-plan l = l.left
