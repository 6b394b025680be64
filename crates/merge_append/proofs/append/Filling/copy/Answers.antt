-- `merge_append::append::Filling::copy` meets its contract: what is done and what is left make up the whole.
use Rattle.merge_append.proofs.AppendLaws.{copy_laws}
use borrow.Author.Rules.{rules}
use Rattle.merge_append.proofs.append.Filling.copy.Goals as goal

pub loop-init : goal.loop-init
loop-init c = search (rules, copy_laws)

pub loop-preserved : goal.loop-preserved
loop-preserved c = search (rules, copy_laws)

pub returns : goal.returns
returns c = search (rules, copy_laws)
