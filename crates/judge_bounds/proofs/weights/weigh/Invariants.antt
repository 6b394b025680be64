use Rattle.judge_bounds.proofs.WeightLaws.{Weighing}
use Rattle.judge_bounds.proofs.weights.weigh.Given as goal

abbrev pub invariant-loop-rest : goal.invariant-loop-rest
invariant-loop-rest l = Weighing l.weights l.set l.total l.rest

abbrev pub decreases-loop-rest : goal.decreases-loop-rest
decreases-loop-rest l = l.rest
