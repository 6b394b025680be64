-- `merge_edges::edge::pointer_moves` meets its contract: what is done and what is left make up the whole.
use Rattle.merge_edges.proofs.EdgeLaws.{moves_laws}
use borrow.Author.Rules.{rules}
use Rattle.merge_edges.proofs.edge.pointer_moves.Goals as goal

pub loop-i-init : goal.loop-i-init
loop-i-init c = search (rules, moves_laws)

pub loop-i-preserved : goal.loop-i-preserved
loop-i-preserved c = search (rules, moves_laws)

pub returns : goal.returns
returns c = search (rules, moves_laws)
