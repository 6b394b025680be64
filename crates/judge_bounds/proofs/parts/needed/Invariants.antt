use Rattle.judge_bounds.proofs.PartLaws.{Needing}
use Rattle.judge_bounds.proofs.parts.needed.Given as goal

abbrev pub invariant-loop-rest : goal.invariant-loop-rest
invariant-loop-rest l = Needing l.t.masks.now l.t.first.now l.t.set l.u l.need l.rest

abbrev pub decreases-loop-rest : goal.decreases-loop-rest
decreases-loop-rest l = l.rest
