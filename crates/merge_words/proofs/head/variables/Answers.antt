-- What is done and what is left make up the whole.
use Rattle.merge_words.proofs.HeadLaws.{variables_laws}
use borrow.Author.Rules.{rules}
use Rattle.merge_words.proofs.head.variables.Goals as goal

pub loop-k-init : goal.loop-k-init
loop-k-init c = search (rules, variables_laws)

pub loop-k-preserved : goal.loop-k-preserved
loop-k-preserved c = search (rules, variables_laws)

pub returns : goal.returns
returns c = search (rules, variables_laws)
