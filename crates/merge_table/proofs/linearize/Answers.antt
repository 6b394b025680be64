-- `merge_table::linearize` meets its contract: each way out is a law of LinearizeIs.
use Rattle.merge_table.proofs.LinearizeIs.{linearize_laws}
use borrow.Author.Rules.{rules}
use Rattle.merge_table.proofs.linearize.Goals as goal

pub returns-in-Ok : goal.returns-in-Ok
returns-in-Ok c = search (rules, linearize_laws)

pub returns-in-Err : goal.returns-in-Err
returns-in-Err c = search (rules, linearize_laws)
