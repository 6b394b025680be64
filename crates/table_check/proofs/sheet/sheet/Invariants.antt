-- `table_check::sheet::sheet` meets its contract: from each turn on, the rounds that are left come to the same answer.
use mathlib.Core.Path.{◌≡◌}
use Prim.Native.Nat.{◌+◌, ◌-◌}
use Rattle.model.specs.Bounds.{table_words}
use Rattle.table_line.specs.Line.{line_at}
use Rattle.table_check.specs.Scan.{scanned, scanned_sheet}
use Rattle.table_check.proofs.SheetLaws.{zeros_after}
use Rattle.table_check.proofs.sheet.sheet.Given as goal

abbrev pub invariant-loop : goal.invariant-loop
invariant-loop l = zeros_after l.t (scanned (line_at l.t) (table_words + 1 - l.counter) l.scan) ≡ scanned_sheet (line_at l.t) l.t
