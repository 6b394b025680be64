use Rattle.judge_cover.proofs.GroupLaws.{Gathering}
use Rattle.judge_cover.proofs.places.groups.Given as goal

abbrev pub invariant-loop-k : goal.invariant-loop-k
invariant-loop-k l = Gathering l.first l.takers l.starts l.ends l.n l.k
