-- `merge_distinct::copying::edges` meets its contract: what is copied and what is left make up the whole.
use Rattle.merge_distinct.proofs.CopyingLaws.{edges_laws}
use borrow.Author.Rules.{rules}
use Rattle.merge_distinct.proofs.copying.edges.Goals as goal

pub loop-first-init : goal.loop-first-init
loop-first-init c = search (rules, edges_laws)

pub loop-first-preserved : goal.loop-first-preserved
loop-first-preserved c = search (rules, edges_laws)

pub returns : goal.returns
returns c = search (rules, edges_laws)
