use Rattle.judge_cover.proofs.CodeLaws.{Removing}
use Rattle.judge_cover.proofs.places.without.Given as goal

abbrev pub invariant-loop-i : goal.invariant-loop-i
invariant-loop-i l = Removing l.k l.list l.rest l.i
