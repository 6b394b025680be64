use Rattle.read_predicate.proofs.FormedLaws.{formed_laws}
use borrow.Author.Rules.{rules}
use Rattle.read_predicate.proofs.formed.well_formed.Goals as goal

pub returns-in_default : goal.returns-in_default
returns-in_default c = search (rules, formed_laws)

pub loop-i-preserved : goal.loop-i-preserved
loop-i-preserved c = search (rules, formed_laws, c.in-Some.ensures)
