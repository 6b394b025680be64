-- Each way out of `reader::read`.
use Prim.Native.Nat.{ℕ, ◌≤◌, ◌<◌}
use mathlib.Core.Path.{◌≡◌, sym, ◌∙◌, ap}
use mathlib.Core.List.{List}
use borrow.Author.Tests.{le-ltb, lt-ltb}
use lib.ListN.{length, length-replicate}
use Rattle.model.specs.Bounds.{table_words}
use Rattle.model.specs.Table.{row18}
use Rattle.format.specs.Bytes.{Bytes}
use Rattle.format.specs.Reader.{row1, read_answer, table_after}
use Rattle.read_line.proofs.ReadsLines.{reads_lines}
use Rattle.std.specs.Prelude.{Ok, Err}
use Rattle.reader.specs.declared.Refusal.{Refusal}
use Rattle.reader.specs.Read.{ReadAnswer, refusal, read_of, stored, stored_if, sheet_read, blank, read_to, read_after}
use Rattle.reader.proofs.SheetLaws.{sheet_kept}
use Rattle.reader.proofs.Exact.{answer_exact, after_exact}

module _ (text : Bytes) (table : List ℕ) where
  pub short_answer : length table < table_words → Err (refusal 18 0) ≡ read_to text table
  unfolding read_to row18
  short_answer h = rw (lt-ltb (length table) table_words h, read_to)

  pub short_after : length table < table_words → table ≡ read_after text table
  unfolding read_after row18
  short_after h = rw (lt-ltb (length table) table_words h, read_after)

  module _ (h : table_words ≤ length table) where
    pub long_answer : 65536 < length text → Err (refusal 1 0) ≡ read_to text table
    unfolding read_to row18 row1
    long_answer l = rw (le-ltb (length table) table_words h, lt-ltb 65536 (length text) l, read_to)

    pub long_after : 65536 < length text → table ≡ read_after text table
    unfolding read_after row18 row1
    long_after l = rw (le-ltb (length table) table_words h, lt-ltb 65536 (length text) l, read_after)

    module _ (l : length text ≤ 65536) where
      by_answer : (sheet_read text blank).answer ≡ read_to text table
      unfolding read_to row18 row1
      by_answer = rw (le-ltb (length table) table_words h, le-ltb 65536 (length text) l, read_to)

      pub accepted_answer : Ok tt ≡ (sheet_read text blank).answer → Ok tt ≡ read_to text table
      accepted_answer e = e ∙ by_answer

      pub refused_answer : (r : Refusal) → Err r ≡ (sheet_read text blank).answer → Err r ≡ read_to text table
      refused_answer r e = e ∙ by_answer

      by_after : stored_if (sheet_read text blank) table ≡ read_after text table
      unfolding read_after row18 row1
      by_after = rw (le-ltb (length table) table_words h, le-ltb 65536 (length text) l, read_after)

      pub refused_after : (r : Refusal) → Err r ≡ (sheet_read text blank).answer → table ≡ read_after text table
      unfolding stored_if
      refused_after r e = rw (sym e, stored_if) at by_after

      module _ (words : List ℕ) (hw : words ≡ (sheet_read text blank).words) where
        pub accepted_after : Ok tt ≡ (sheet_read text blank).answer → (new : List ℕ) → new ≡ stored words table → new ≡ read_after text table
        unfolding stored_if
        accepted_after e new hn = hn ∙ ap (λ (w : List ℕ). stored w table) hw ∙ (rw (sym e, stored_if) at by_after)

pub words_length : (text : Bytes) (words : List ℕ) → words ≡ (sheet_read text blank).words → length words ≡ table_words
words_length text words h = ap length h ∙ sheet_kept text blank ∙ length-replicate {A = ℕ} table_words 0

-- what the code comes to is what the definitions say
pub answer_is : (text : Bytes) (table : List ℕ) (r : ReadAnswer) → r ≡ read_to text table → r ≡ read_of (read_answer text (length table))
answer_is text table r h = h ∙ answer_exact reads_lines text table

pub after_is : (text : Bytes) (table new : List ℕ) → new ≡ read_after text table → new ≡ table_after text table
after_is text table new h = h ∙ after_exact reads_lines text table

pub ruleset read_laws = (answer_is, after_is, short_answer, short_after, long_answer, long_after, accepted_answer, refused_answer, refused_after, accepted_after, words_length)
