-- `read_ends` meets its contract: each way out is a law of EdgeLaws.
use Rattle.read_edge.proofs.EdgeLaws.{ends_laws}
use borrow.Author.Rules.{rules}
use Rattle.read_edge.proofs.read_ends.Goals as goal

pub returns-in_err-from : goal.returns-in_err-from
returns-in_err-from c = search (rules, ends_laws)

pub returns-in_err-action : goal.returns-in_err-action
returns-in_err-action c = search (rules, ends_laws)

pub returns-in_err-to : goal.returns-in_err-to
returns-in_err-to c = search (rules, ends_laws)

pub returns : goal.returns
returns c = search (rules, ends_laws)
