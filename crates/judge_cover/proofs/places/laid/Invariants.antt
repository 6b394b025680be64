use Rattle.judge_cover.proofs.PlaceLaws.{Rowing}
use Rattle.judge_cover.proofs.places.laid.Given as goal

abbrev pub invariant-loop-k : goal.invariant-loop-k
invariant-loop-k l = Rowing l.starts l.ends l.length l.least l.k
