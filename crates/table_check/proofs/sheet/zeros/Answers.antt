-- `table_check::sheet::zeros` meets its contract: what was found so far and the words that are left give the answer.
use borrow.Author.Rules.{rules}
use Rattle.table_check.proofs.SheetLaws.{zeros_laws, zeros_rest}
use Rattle.table_check.proofs.sheet.zeros.Goals as goal

pub loop-word-init : goal.loop-word-init
loop-word-init c = zeros_rest _ _ _ c.min.ensures

pub loop-word-preserved : goal.loop-word-preserved
loop-word-preserved c = search (rules, zeros_laws)

pub returns : goal.returns
returns c = search (rules, zeros_laws)
