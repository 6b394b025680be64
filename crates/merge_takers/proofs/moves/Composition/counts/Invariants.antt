-- `merge_takers::moves::Composition::counts` meets its contract: the counts so far, and those to come.
use Rattle.merge_takers.proofs.MovesLaws.{Counting}
use Rattle.merge_takers.proofs.moves.Composition.counts.Given as goal

abbrev pub invariant-loop-i : goal.invariant-loop-i
invariant-loop-i l = Counting l.fn.self.words.now l.fn.self.layout.edges l.action l.count l.i l.under
