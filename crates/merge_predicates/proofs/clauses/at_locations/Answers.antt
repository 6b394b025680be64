-- `merge_predicates::clauses::at_locations` meets its contract: what is done and what is left make up the whole.
use Rattle.merge_predicates.proofs.ClauseLaws.{locations_laws}
use borrow.Author.Rules.{rules}
use Rattle.merge_predicates.proofs.clauses.at_locations.Goals as goal

pub loop-j-init : goal.loop-j-init
loop-j-init c = search (rules, locations_laws)

pub loop-j-preserved : goal.loop-j-preserved
loop-j-preserved c = search (rules, locations_laws)

pub returns : goal.returns
returns c = search (rules, locations_laws)
