-- `merge_predicates::clauses::opening` meets its contract.
use Rattle.merge_predicates.proofs.ClauseLaws.{opening_is}
use borrow.Author.Rules.{rules}
use Rattle.merge_predicates.proofs.clauses.opening.Goals as goal

pub returns : goal.returns
returns c = search (rules, opening_is)
