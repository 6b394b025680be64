-- `merge_predicates::clauses::clause` meets its contract: its words, one after the other.
use Rattle.merge_predicates.proofs.ClauseLaws.{clause_is}
use borrow.Author.Rules.{rules}
use Rattle.merge_predicates.proofs.clauses.clause.Goals as goal

pub returns : goal.returns
returns c = search (rules, clause_is)
