-- `edge` meets its contract: each way out is a law of EdgeLaws.
use Rattle.read_predicate_line.proofs.EdgeLaws.{edge_laws}
use Rattle.read_predicate_line.proofs.PredicateLaws.{scratch_laws}
use borrow.Author.Rules.{rules}
use Rattle.read_predicate_line.proofs.edges.edge.Goals as goal

pub returns-then-misformed : goal.returns-then-misformed
returns-then-misformed c = record { value = search (rules, edge_laws); words_after = search (rules, edge_laws); scratch = search (rules, scratch_laws) }

pub returns : goal.returns
returns c = record { value = search (rules, edge_laws); words_after = search (rules, edge_laws); scratch = search (rules, scratch_laws) }
