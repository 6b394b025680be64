-- `predicate` meets its contract: each way out is a law of PredicateLaws.
use Rattle.read_predicate_line.proofs.PredicateLaws.{predicate_laws}
use borrow.Author.Rules.{rules}
use Rattle.read_predicate_line.proofs.predicates.predicate.Goals as goal

pub returns-in-Ok-clause-value : goal.returns-in-Ok-clause-value
returns-in-Ok-clause-value c = search (rules, predicate_laws, c.in-Ok.ensures.value)

pub returns-in-Err-Row-clause-value : goal.returns-in-Err-Row-clause-value
returns-in-Err-Row-clause-value c = search (rules, predicate_laws, c.in-Err-Row.ensures.value)

pub returns-in-Err-Full-clause-value : goal.returns-in-Err-Full-clause-value
returns-in-Err-Full-clause-value c = search (rules, predicate_laws, c.in-Err-Full.ensures.value)
