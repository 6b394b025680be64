-- `merger::merge_text` meets its contract: each way out is a law.
use Rattle.merger.proofs.OutcomeLaws.{merge_text_laws}
use borrow.Author.Rules.{rules}
use Rattle.merger.proofs.merge_text.Goals as goal

pub returns-in-Err : goal.returns-in-Err
returns-in-Err c = search (rules, merge_text_laws, c.in-Err.is)

pub returns-in-Ok : goal.returns-in-Ok
returns-in-Ok c = search (rules, merge_text_laws, c.in_default.is)

pub returns-in-Err-merge : goal.returns-in-Err-merge
returns-in-Err-merge c = search (rules, merge_text_laws, c.in_default.is)
