-- `merge_edges::edges::all_edges` meets its contract: what is done and what is left make up the whole.
use Rattle.merge_edges.proofs.EdgesLaws.{all_laws}
use borrow.Author.Rules.{rules}
use Rattle.merge_edges.proofs.edges.all_edges.Goals as goal

pub loop-init : goal.loop-init
loop-init c = search (rules, all_laws)

pub loop-preserved : goal.loop-preserved
loop-preserved c = search (rules, all_laws)

pub returns : goal.returns
returns c = search (rules, all_laws)
