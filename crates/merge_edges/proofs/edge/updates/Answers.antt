-- `merge_edges::edge::updates` meets its contract: what is done and what is left make up the whole.
use Rattle.merge_edges.proofs.EdgeLaws.{updates_laws}
use borrow.Author.Rules.{rules}
use Rattle.merge_edges.proofs.edge.updates.Goals as goal

pub loop-place-init : goal.loop-place-init
loop-place-init c = search (rules, updates_laws)

pub loop-place-preserved : goal.loop-place-preserved
loop-place-preserved c = search (rules, updates_laws)

pub returns : goal.returns
returns c = search (rules, updates_laws)
