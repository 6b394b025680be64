use Rattle.judge_cover.specs.Cover.{spares}
use Rattle.judge_cover.proofs.GroupLaws.{Sifting}
use Rattle.judge_cover.proofs.edges.drop_named.Given as goal

abbrev pub invariant-loop-i : goal.invariant-loop-i
invariant-loop-i l = Sifting (spares l.v) l.initial.masks l.from l.to l.initial.masks l.from l.masks l.next l.i
