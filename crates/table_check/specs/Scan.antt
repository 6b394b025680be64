-- The scan over a table's lines, given what reads one line: `line at key counts`.
use Rattle.std.specs.Prelude.{ℕ, zero, suc, ◌+◌, Bool, true, false, drop, eqb}
use mathlib.Core.List.{List}
use Rattle.std.proofs.Math.Option.{Option, none, some}
use Rattle.model.specs.Basic.{every}
use Rattle.model.specs.Bounds.{table_words}
use Rattle.line_order.specs.declared.Key.{Key}
use Rattle.line_order.specs.declared.Counts.{Counts}
use Rattle.line_order.specs.Due.{is_end, due_first, due_after}
use Rattle.line_order.specs.Counts.{counts_none, counts_after}
use Rattle.table_line.specs.declared.Line.{Line}
use Rattle.std.specs.Prelude.{Option as Choice, Some, None}
use Rattle.table_check.specs.declared.Scan.{Scan}

unfoldable pub scan_first : Scan
scan_first = record { due = due_first; counts = counts_none; at = 0 }

unfoldable pub scan_after : Scan → (number nodes next : ℕ) → Scan
scan_after s number nodes next =
    record { due = due_after s.due number; counts = counts_after s.counts s.due.key number nodes; at = next }

-- every word from this index on is 0
unfoldable pub zeros_from : List ℕ → ℕ → Bool
zeros_from t at = every (λ w. eqb w 0) (drop at t)

module _ (line : ℕ → Key → Counts → Choice Line) where
  -- the index after the last line, if every line is sound; the fuel bounds the rounds, of which the last only finds the
  -- end
  unfoldable pub scanned : (fuel : ℕ) → Scan → Option ℕ
  scanned zero s = none
  scanned (suc fuel) s =
      elim (is_end s.due.key) [
        | true ↦ some s.at
        | false ↦ elim (line s.at s.due.key s.counts) [
          | Some read ↦ scanned fuel (scan_after s read.number read.nodes read.next)
          | None ↦ none
        ]
      ]

  -- Each line takes a word at least, so the fuel is enough for a table. The list has been cut to its 16,384 words.
  unfoldable pub scanned_sheet : List ℕ → Bool
  scanned_sheet t = elim (scanned (table_words + 1) scan_first) [ none ↦ false | some at ↦ zeros_from t at ]
