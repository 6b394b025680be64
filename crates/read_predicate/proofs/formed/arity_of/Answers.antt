use Rattle.read_predicate.proofs.FormedLaws.{arity_laws}
use borrow.Author.Rules.{rules}
use Rattle.read_predicate.proofs.formed.arity_of.Goals as goal

pub returns-in-All : goal.returns-in-All
returns-in-All c = search (rules, arity_laws)

pub returns-in-Any : goal.returns-in-Any
returns-in-Any c = search (rules, arity_laws)
