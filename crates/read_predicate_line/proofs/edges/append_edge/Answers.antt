-- `append_edge` meets its contract: each way out is a law of EdgeLaws.
use Rattle.read_predicate_line.proofs.EdgeLaws.{append_edge_laws}
use borrow.Author.Rules.{rules}
use Rattle.read_predicate_line.proofs.edges.append_edge.Goals as goal

pub returns : goal.returns
returns c = search (rules, append_edge_laws)
