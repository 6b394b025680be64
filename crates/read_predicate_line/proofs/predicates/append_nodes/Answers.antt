-- `append_nodes` meets its contract: each way out is a law of PredicateLaws.
use Rattle.table_append.proofs.Joined.{more_laws}
use borrow.Author.Rules.{rules}
use Rattle.read_predicate_line.proofs.predicates.append_nodes.Goals as goal

pub returns : goal.returns
returns c = search (rules, more_laws)
