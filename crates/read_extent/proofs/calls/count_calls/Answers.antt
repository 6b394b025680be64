use Rattle.read_extent.proofs.CallsLaws.{count_laws}
use borrow.Author.Rules.{rules}
use Rattle.read_extent.proofs.calls.count_calls.Goals as goal

pub returns-in-Some : goal.returns-in-Some
returns-in-Some c = search (rules, count_laws)
