-- `merge_append::append::Filling::nodes` meets its contract.
use Rattle.merge_append.proofs.AppendLaws.{nodes_are}
use borrow.Author.Rules.{rules}
use Rattle.merge_append.proofs.append.Filling.nodes.Goals as goal

pub returns : goal.returns
returns c = search (rules, nodes_are)
