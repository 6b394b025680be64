-- `merge_append::append::Filling::put_all` meets its contract: what is done and what is left make up the whole.
use Rattle.merge_append.proofs.AppendLaws.{all_laws}
use borrow.Author.Rules.{rules}
use Rattle.merge_append.proofs.append.Filling.put_all.Goals as goal

pub loop-x-init : goal.loop-x-init
loop-x-init c = search (rules, all_laws)

pub loop-x-preserved : goal.loop-x-preserved
loop-x-preserved c = search (rules, all_laws)
