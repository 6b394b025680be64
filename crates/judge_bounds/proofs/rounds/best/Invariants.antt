use Rattle.judge_bounds.proofs.RoundLaws.{Choosing}
use Rattle.judge_bounds.proofs.rounds.best.Given as goal

abbrev pub invariant-loop-i : goal.invariant-loop-i
invariant-loop-i l = Choosing l.masks l.from l.weights l.u l.c.took l.i
