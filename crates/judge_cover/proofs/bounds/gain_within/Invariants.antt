use Rattle.judge_cover.proofs.CodeLaws.{Least}
use Rattle.judge_cover.proofs.bounds.gain_within.Given as goal

abbrev pub invariant-loop-i : goal.invariant-loop-i
invariant-loop-i l = Least l.masks l.from l.u l.all l.least l.i
