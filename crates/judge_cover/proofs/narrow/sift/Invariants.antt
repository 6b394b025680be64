use Rattle.judge_cover.proofs.GroupLaws.{Passing}
use Rattle.judge_cover.proofs.narrow.sift.Given as goal

abbrev pub invariant-loop-i : goal.invariant-loop-i
invariant-loop-i l = Passing l.masks l.from l.to l.u l.total l.gain l.initial.kept l.count l.kept l.next l.least l.i
