use Rattle.judge_cover.proofs.NarrowLaws.{Narrowing}
use Rattle.judge_cover.proofs.narrow.narrow.Given as goal

abbrev pub invariant-loop-k : goal.invariant-loop-k
invariant-loop-k l = Narrowing l.masks l.from l.to l.n l.u l.gains l.initial.kept l.total l.kept l.starts l.ends l.less l.t l.count l.k
