-- `merge_append::append::Filling::put` meets its contract.
use Rattle.merge_append.proofs.AppendLaws.{put_is}
use borrow.Author.Rules.{rules}
use Rattle.merge_append.proofs.append.Filling.put.Goals as goal

pub returns : goal.returns
returns c = search (rules, put_is)
