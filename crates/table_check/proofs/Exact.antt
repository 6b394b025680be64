-- The check of a table answers what rows 18 and 19 say.
use Prim.Native.Nat.{ℕ, ◌≤◌}
use mathlib.Core.Path.{◌≡◌, refl, sym, ap, ◌∙◌}
use mathlib.Core.Bool.{Bool, true, false, true≢false}
use mathlib.Core.List.{List}
use mathlib.Core.Option.{Option, none, some}
use lib.ListN.{length, take, drop, take-append-drop}
use lib.Dec.{ltb}
use borrow.Author.Tests.{ltb-false}
use Rattle.model.specs.Basic.{every, lacks}
use Rattle.model.specs.Bounds.{table_words}
use Rattle.model.specs.Model.{Model}
use Rattle.model.specs.Table.{model_of, row18, row19, open_table}
use Rattle.model.proofs.Tests.{and_left, every_append}
use Rattle.table_check.specs.Scan.{scanned_sheet}
use Rattle.table_line.specs.Line.{line_at}
use Rattle.table_check.specs.Check.{checked_table, answered}
use Rattle.table_check.proofs.ScanLaws.{check_exact_by}
use Rattle.table_line.proofs.LineLaws.{line_exact}

abbrev narrow : ℕ → Bool
narrow w = ltb w 4294967296

-- words of 32 bits are so in a part, too
narrow_part : (n : ℕ) (t : List ℕ) → every narrow t ≡ true → every narrow (take n t) ≡ true
narrow_part n t h =
    and_left (every narrow (take n t)) (every narrow (drop n t))
    (sym (every_append narrow (take n t) (drop n t)) ∙ ap (every narrow) (take-append-drop n t) ∙ h)

module _ (t : List ℕ) (words : every narrow t ≡ true) where
  abbrev scan : Bool
  scan = scanned_sheet (line_at (take table_words t)) (take table_words t)

  -- a table that is long enough: the scan succeeds exactly where there is a model
  long : table_words ≤ length t → row18 (length t) ≡ false → (b : Bool) → scan ≡ b → (o : Option Model) → model_of t ≡ o → checked_table t ≡ answered (open_table t)
  unfolding checked_table open_table answered row19 lacks
  long l e true g (some m) h = rw (e, checked_table, g, checked_table, open_table, h, open_table)
  long l e false g none h = rw (e, checked_table, g, checked_table, open_table, h, open_table)
  long l e true g none h =
      let r : row19 t ≡ false = (check_exact_by t (line_at (take table_words t)) l (line_exact (take table_words t) (narrow_part table_words t words))).0 g in
      absurd (true≢false (sym (ap lacks h) ∙ r))
  long l e false g (some m) h =
      let r : row19 t ≡ false = ap lacks h in
      absurd (true≢false (sym ((check_exact_by t (line_at (take table_words t)) l (line_exact (take table_words t) (narrow_part table_words t words))).1 r) ∙ g))

  -- for a table of 32-bit words, as the code's tables are
  pub check_exact : checked_table t ≡ answered (open_table t)
  check_exact = go (row18 (length t)) refl
    where
      go : (b : Bool) → row18 (length t) ≡ b → checked_table t ≡ answered (open_table t)
      go true e = unfold checked_table open_table answered in rw (e, checked_table, open_table)
      go false e = long (ltb-false (length t) table_words (unfold row18 in e)) e scan refl (model_of t) refl
