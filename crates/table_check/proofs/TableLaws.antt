-- Each way out of the code of src/lib.rt.
use Prim.Native.Nat.{ℕ, ◌≤◌, ◌<◌}
use mathlib.Core.Path.{◌≡◌, sym, ◌∙◌}
use mathlib.Core.Bool.{Bool, true, false}
use mathlib.Core.List.{List}
use lib.ListN.{length, take}
use lib.Seq.{length-take-le}
use borrow.Author.Tests.{lt-ltb, le-ltb}
use Rattle.model.specs.Bounds.{table_words}
use Rattle.model.specs.Table.{row18}
use Rattle.std.proofs.Common.{Ok, Err}
use Rattle.model.specs.Row.{row}
use Rattle.table_check.specs.Scan.{scanned_sheet}
use Rattle.table_line.specs.Line.{line_at}
use Rattle.table_check.specs.Check.{checked_table}

-- `check`
pub cut_whole : (t : List ℕ) → table_words ≤ length t → table_words ≡ length (take table_words t)
cut_whole t h = sym (length-take-le table_words t h)

module _ (t : List ℕ) where
  pub check_short : length t < table_words → Err (row 18) ≡ checked_table t
  unfolding checked_table row18
  check_short h = rw (lt-ltb (length t) table_words h, checked_table)

  module _ (h : table_words ≤ length t) (r : Bool) (e : r ≡ scanned_sheet (line_at (take table_words t)) (take table_words t)) where
    pub check_good : r ≡ true → Ok tt ≡ checked_table t
    unfolding checked_table row18
    check_good g =
        let u : scanned_sheet (line_at (take table_words t)) (take table_words t) ≡ true = sym e ∙ g in
        rw (le-ltb (length t) table_words h, checked_table, u, checked_table)

    pub check_bad : r ≡ false → Err (row 19) ≡ checked_table t
    unfolding checked_table row18
    check_bad g =
        let u : scanned_sheet (line_at (take table_words t)) (take table_words t) ≡ false = sym e ∙ g in
        rw (le-ltb (length t) table_words h, checked_table, u, checked_table)

pub ruleset check_laws = (check_short, check_good, check_bad)
