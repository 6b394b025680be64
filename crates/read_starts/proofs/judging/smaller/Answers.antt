use Rattle.read_starts.proofs.JudgingLaws.{smaller_laws}
use borrow.Author.Rules.{rules}
use Rattle.read_starts.proofs.judging.smaller.Goals as goal

pub returns-in-Some : goal.returns-in-Some
returns-in-Some c = search (rules, smaller_laws)

pub returns-in_default : goal.returns-in_default
returns-in_default c = search (rules, smaller_laws)
