-- `merge_output::output` meets its contract: each way out is a law.
use Rattle.merge_output.proofs.OutputLaws.{output_laws}
use borrow.Author.Rules.{rules}
use Rattle.merge_output.proofs.output.Goals as goal

pub returns-in-Ok : goal.returns-in-Ok
returns-in-Ok c = search (rules, output_laws)

pub returns-in-Err : goal.returns-in-Err
returns-in-Err c = search (rules, output_laws)
