-- `merge_takers::moves::Composition::counts` meets its contract: the counts so far, and those to come.
use Rattle.merge_takers.proofs.MovesLaws.{counting_laws}
use Rattle.merge_append.proofs.Fronts.{front_laws}
use borrow.Author.Rules.{rules}
use Rattle.merge_takers.proofs.moves.Composition.counts.Goals as goal

pub loop-i-preserved : goal.loop-i-preserved
loop-i-preserved c = search (rules, counting_laws, front_laws)

pub returns : goal.returns
returns c = search (rules, counting_laws, front_laws)
