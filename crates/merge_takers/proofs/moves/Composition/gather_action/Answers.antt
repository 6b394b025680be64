-- `merge_takers::moves::Composition::gather_action` meets its contract.
use Rattle.merge_takers.proofs.GatheringLaws.{action_is}
use borrow.Author.Rules.{rules}
use Rattle.merge_takers.proofs.moves.Composition.gather_action.Goals as goal

pub returns : goal.returns
returns c = search (rules, action_is)
