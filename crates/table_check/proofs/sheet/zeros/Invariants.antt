-- `table_check::sheet::zeros` meets its contract: what was found so far and the words that are left give the answer.
use mathlib.Core.Path.{◌≡◌}
use mathlib.Core.Bool.{◌&&◌}
use lib.ListN.{drop}
use Rattle.table_check.specs.Scan.{zeros_from}
use Rattle.table_check.proofs.SheetLaws.{all_zero}
use Rattle.table_check.proofs.sheet.zeros.Given as goal

abbrev pub invariant-loop-word : goal.invariant-loop-word
invariant-loop-word l = (l.all && all_zero (drop l.word-index l.word-items)) ≡ zeros_from l.t l.at
