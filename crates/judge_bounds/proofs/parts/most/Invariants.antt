use Rattle.judge_bounds.proofs.PartLaws.{Spreading}
use Rattle.judge_bounds.proofs.parts.most.Given as goal

abbrev pub invariant-loop-k : goal.invariant-loop-k
invariant-loop-k l = Spreading l.t.masks.now l.t.first.now l.t.set l.part l.out l.m l.k
