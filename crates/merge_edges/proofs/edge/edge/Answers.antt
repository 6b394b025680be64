-- `merge_edges::edge::edge` meets its contract: its words, part by part.
use Rattle.merge_edges.proofs.EdgeLaws.{edge_is}
use borrow.Author.Rules.{rules}
use Rattle.merge_edges.proofs.edge.edge.Goals as goal

pub returns : goal.returns
returns c = search (rules, edge_is)
