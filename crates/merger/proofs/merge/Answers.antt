-- `merger::merge` meets its contract: each way out is a law of MergeLaws.
use Rattle.merger.proofs.MergeLaws.{merge_laws}
use borrow.Author.Rules.{rules}
use Rattle.merger.proofs.merge.Goals as goal

pub returns-in-Some : goal.returns-in-Some
returns-in-Some c = search (rules, merge_laws)

pub returns-in_err-length : goal.returns-in_err-length
returns-in_err-length c = search (rules, merge_laws, c.in_err-length.was)

pub returns : goal.returns
returns c = search (rules, merge_laws, c.in_ok-length.was)
