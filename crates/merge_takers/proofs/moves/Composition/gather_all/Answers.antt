-- `merge_takers::moves::Composition::gather_all` meets its contract: what is done and what is left make up the whole.
use Rattle.merge_takers.proofs.GatheringLaws.{all_laws}
use borrow.Author.Rules.{rules}
use Rattle.merge_takers.proofs.moves.Composition.gather_all.Goals as goal

pub loop-action-init : goal.loop-action-init
loop-action-init c = search (rules, all_laws)

pub loop-action-preserved : goal.loop-action-preserved
loop-action-preserved c = search (rules, all_laws)

pub returns-2 : goal.returns-2
returns-2 c = search (rules, all_laws)
