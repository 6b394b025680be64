-- `location` meets its contract: each way out is a law of PredicateLaws.
use Rattle.read_predicate_line.proofs.PredicateLaws.{location_laws, scratch_laws}
use borrow.Author.Rules.{rules}
use Rattle.read_predicate_line.proofs.predicates.location.Goals as goal

pub returns-then-misformed : goal.returns-then-misformed
returns-then-misformed c = record { value = search (rules, location_laws); words_after = search (rules, location_laws); scratch = search (rules, scratch_laws) }

pub returns : goal.returns
returns c = record { value = search (rules, location_laws); words_after = search (rules, location_laws); scratch = search (rules, scratch_laws) }
