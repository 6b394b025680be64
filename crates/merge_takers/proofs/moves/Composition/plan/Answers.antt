-- `merge_takers::moves::Composition::plan` meets its contract.
use Rattle.merge_takers.proofs.MovesLaws.{plan_is}
use borrow.Author.Rules.{rules}
use Rattle.merge_takers.proofs.moves.Composition.plan.Goals as goal

pub returns : goal.returns
returns c = search (rules, plan_is)
