-- `merge_edges::edge::pointer_move` meets its contract: each way out is a law of EdgeLaws.
use Rattle.merge_edges.proofs.EdgeLaws.{move_laws}
use borrow.Author.Rules.{rules}
use Rattle.merge_edges.proofs.edge.pointer_move.Goals as goal

pub returns-then-place-eq0 : goal.returns-then-place-eq0
returns-then-place-eq0 c = search (rules, move_laws)

pub returns : goal.returns
returns c = search (rules, move_laws)
