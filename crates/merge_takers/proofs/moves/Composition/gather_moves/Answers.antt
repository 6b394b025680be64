-- `merge_takers::moves::Composition::gather_moves` meets its contract: what is done and what is left make up the whole.
use Rattle.merge_takers.proofs.GatheringLaws.{moves_laws}
use borrow.Author.Rules.{rules}
use Rattle.merge_takers.proofs.moves.Composition.gather_moves.Goals as goal

pub loop-k-init : goal.loop-k-init
loop-k-init c = search (rules, moves_laws)

pub loop-k-preserved : goal.loop-k-preserved
loop-k-preserved c = search (rules, moves_laws)

pub returns : goal.returns
returns c = search (rules, moves_laws)
