-- The reader answers what the definitions say, and leaves the table that they say, where what reads one line is exact.
use Prim.Native.Nat.{ℕ, ◌≤◌}
use mathlib.Core.Path.{◌≡◌, refl, sym, ◌∙◌, ap}
use mathlib.Core.Bool.{Bool, true, false}
use mathlib.Core.List.{List, ◌++◌}
use native.Mathlib.Omega.{arith}
use borrow.Author.Tests.{ltb-false, le-leb}
use lib.ListN.{length, drop}
use lib.Dec.{ltb}
use Rattle.model.specs.Bounds.{max_bytes, table_words}
use Rattle.model.specs.Model.{Model}
use Rattle.model.specs.Lines.{due_at_first, at_first}
use Rattle.model.specs.Table.{table_of, row18}
use Rattle.model.proofs.TableLaws.{table_length}
use Rattle.format.specs.Bytes.{Bytes}
use Rattle.format.specs.Spelling.{nothing}
use Rattle.format.specs.Reader as Reader
use Rattle.format.specs.Reader.{accepted, refused, lines_of, row1, read_answer, table_after}
use Rattle.format.proofs.Exact.{accepted_then, answer_reads}
use Rattle.read_line.specs.Exact.{ReadsLines}
use Rattle.read_line.specs.Line.{line_read, line_after}
use Rattle.std.specs.Prelude.{Err}
use Rattle.reader.specs.Read.{ReadAnswer, refusal, read_of, stored, stored_if, sheet_read, blank, read_to, read_after}
use Rattle.reader.proofs.ReadExact.{sheet_ends, sheet_table}

module _ (exact : ReadsLines line_read line_after) (text : Bytes) (table : List ℕ) where
  -- by rows 18 and 1
  pub answer_exact : read_to text table ≡ read_of (read_answer text (length table))
  unfolding read_to read_answer row18 row1 read_of
  answer_exact = go (ltb (length table) table_words) refl (ltb max_bytes (length text)) refl
    where
      go : (a : Bool) → ltb (length table) table_words ≡ a → (b : Bool) → ltb max_bytes (length text) ≡ b
          → elim a as (λ x. ReadAnswer) [ true ↦ Err (refusal 18 0) | false ↦ elim b as (λ x. ReadAnswer) [ true ↦ Err (refusal 1 0) | false ↦ (sheet_read text blank).answer ] ]
          ≡ read_of (elim a as (λ x. Reader.ReadAnswer) [ true ↦ refused 18 0 | false ↦ elim b as (λ x. Reader.ReadAnswer) [ true ↦ refused 1 0 | false ↦ Reader.read nothing at_first due_at_first 1 (lines_of text) ] ])
      go true e b f = refl
      go false e true f = refl
      go false e false f = (sheet_ends exact text (ltb-false max_bytes (length text) f)).answer

  stores : (m : Model) → read_answer text (length table) ≡ accepted m → stored (sheet_read text blank).words table ≡ table_of m ++ drop table_words table
  unfolding stored
  stores m a =
      let x = accepted_then text (length table) m a in
      let same = sheet_table exact text x.short m (sym (answer_reads text (length table) x.room x.short) ∙ a) x.limited in
      let long = table_length m x.limited in
      ap (λ (w : List ℕ). stored w table) same
      ∙ rw (le-leb (length (table_of m)) (length table) (omega (arith, long, x.room)), stored) (ap (λ (n : ℕ). table_of m ++ drop n table) long)

  abbrev after : Reader.ReadAnswer → List ℕ
  after o = elim o as (λ x. List ℕ) [ refused row line ↦ table | accepted m ↦ table_of m ++ drop table_words table ]

  stored_by : table_words ≤ length table → length text ≤ max_bytes → (o : Reader.ReadAnswer) → Reader.read nothing at_first due_at_first 1 (lines_of text) ≡ o → stored_if (sheet_read text blank) table ≡ after o
  unfolding stored_if read_of
  stored_by h l (refused row line) e = rw ((sheet_ends exact text l).answer ∙ ap read_of e, stored_if)
  stored_by h l (accepted m) e =
      rw ((sheet_ends exact text l).answer ∙ ap read_of e, stored_if) (stores m (answer_reads text (length table) h l ∙ e))

  pub after_exact : read_after text table ≡ table_after text table
  unfolding read_after table_after read_answer row18 row1
  after_exact = go (ltb (length table) table_words) refl (ltb max_bytes (length text)) refl
    where
      go : (a : Bool) → ltb (length table) table_words ≡ a → (b : Bool) → ltb max_bytes (length text) ≡ b
          → ◌≡◌ {A = List ℕ} (elim a as (λ x. List ℕ) [ true ↦ table | false ↦ elim b as (λ x. List ℕ) [ true ↦ table | false ↦ stored_if (sheet_read text blank) table ] ])
          (after (elim a as (λ x. Reader.ReadAnswer) [ true ↦ refused 18 0 | false ↦ elim b as (λ x. Reader.ReadAnswer) [ true ↦ refused 1 0 | false ↦ Reader.read nothing at_first due_at_first 1 (lines_of text) ] ]))
      go true e b f = refl
      go false e true f = refl
      go false e false f = stored_by (ltb-false (length table) table_words e) (ltb-false max_bytes (length text) f) (Reader.read nothing at_first due_at_first 1 (lines_of text)) refl
