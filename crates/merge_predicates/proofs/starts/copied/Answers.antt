-- `merge_predicates::starts::copied` meets its contract: what is done and what is left make up the whole.
use Rattle.merge_predicates.proofs.StartLaws.{copied_laws}
use borrow.Author.Rules.{rules}
use Rattle.merge_predicates.proofs.starts.copied.Goals as goal

pub loop-init : goal.loop-init
loop-init c = search (rules, copied_laws)

pub loop-preserved : goal.loop-preserved
loop-preserved c = search (rules, copied_laws)

pub returns : goal.returns
returns c = search (rules, copied_laws)
