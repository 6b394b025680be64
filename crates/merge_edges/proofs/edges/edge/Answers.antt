-- `merge_edges::edges::edge` meets its contract.
use Rattle.merge_edges.proofs.EdgesLaws.{edge_is}
use borrow.Author.Rules.{rules}
use Rattle.merge_edges.proofs.edges.edge.Goals as goal

pub returns : goal.returns
returns c = search (rules, edge_is)
