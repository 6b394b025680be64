use Rattle.judge_cover.proofs.GroupLaws.{Bounding}
use Rattle.judge_cover.proofs.bounds.find.Given as goal

abbrev pub invariant-loop-k : goal.invariant-loop-k
invariant-loop-k l = Bounding l.masks l.starts l.ends l.n l.u l.gains l.total l.k
