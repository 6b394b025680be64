use Rattle.judge_bounds.proofs.PartLaws.{Fitting}
use Rattle.judge_bounds.proofs.parts.fit_all.Given as goal

abbrev pub invariant-loop-i : goal.invariant-loop-i
invariant-loop-i l = Fitting l.masks l.from l.part l.out l.least l.m l.i
