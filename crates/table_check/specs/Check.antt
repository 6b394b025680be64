-- What the check of a table answers: rows 18 and 19.
use Rattle.std.specs.Prelude.{ℕ, true, false, List, Result, Ok, Err, ⊤, length, take}
use Rattle.model.specs.Bounds.{table_words}
use Rattle.model.specs.Table.{Opened, unopened, opened, row18}
use Rattle.model.specs.declared.Row.{Row}
use Rattle.model.specs.Row.{row}
use Rattle.table_check.specs.Scan.{scanned_sheet}
use Rattle.table_line.specs.Line.{line_at}

unfoldable pub checked_table : List ℕ → Result ⊤ Row
checked_table t =
    elim (row18 (length t)) [
      | true ↦ Err (row 18)
      | false ↦
          elim (scanned_sheet (line_at (take table_words t)) (take table_words t)) [
            | true ↦ Ok tt
            | false ↦ Err (row 19)
          ]
    ]

-- the same as the definitions say it: the row that refuses a table, or that it is good (the law check_exact)
unfoldable pub answered : Opened → Result ⊤ Row
answered (unopened n) = Err (row n)
answered (opened m) = Ok tt
