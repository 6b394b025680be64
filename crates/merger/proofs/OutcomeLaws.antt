-- Each way out of the code of `merge_text`.
use mathlib.Core.Path.{◌≡◌, refl, sym, ap, ◌∙◌}
use mathlib.Core.List.{List, [], ◌++◌, append-nil}
use Prim.Native.Nat.{ℕ, ◌≤◌}
use native.Mathlib.Omega.{arith}
use lib.ListN.{length, drop, replicate, length-replicate, drop_of_length-le}
use Rattle.model.specs.Bounds.{table_words}
use Rattle.model.specs.Model.{Model}
use Rattle.model.specs.Table.{table_of}
use Rattle.format.specs.Bytes.{Bytes}
use Rattle.format.specs.Reader as Reader
use Rattle.format.specs.Reader.{read_answer, table_after}
use Rattle.format.specs.Merger.{merge_answer, merge_after}
use Rattle.reader.specs.declared.Refusal.{Refusal}
use Rattle.reader.specs.Read.{ReadAnswer, refusal, read_of}
use Rattle.std.proofs.Common.{Result, Ok, Err}
use Rattle.model.specs.declared.Row.{Row}
use Rattle.model.specs.Row.{row}
use Rattle.merger.specs.declared.Merged.{Merged}
use Rattle.merger.specs.Answers.{merge_of}
use Rattle.merger.specs.Outcome.{passed_on, outcome, outcome_after}

-- `merge_text`
-- the reader's answers, told apart
read_row : (text : Bytes) (n : ℕ) (r : Refusal) → read_of (read_answer text n) ≡ Err r → read_answer text n ≡ Reader.refused r.row.0 r.line
unfolding read_of
read_row text n r e = go (read_answer text n) refl
  where
    go : (a : Reader.ReadAnswer) → read_answer text n ≡ a → read_answer text n ≡ Reader.refused r.row.0 r.line
    go (Reader.refused x y) f =
        let s : Err (refusal x y) ≡ Err r = sym (ap read_of f) ∙ e in
        let i : refusal x y ≡ r = cc in
        f ∙ ap (λ (z : Refusal). Reader.refused z.row.0 z.line) i
    go (Reader.accepted m) f =
        let s : Ok tt ≡ Err r = sym (ap read_of f) ∙ e in
        let z : ◌≡◌ {A = ℕ} 0 1 = cc in
        absurd (omega arith)

read_good : (text : Bytes) (n : ℕ) → read_of (read_answer text n) ≡ Ok tt → (m : Model) × (read_answer text n ≡ Reader.accepted m)
unfolding read_of
read_good text n e = go (read_answer text n) refl
  where
    go : (a : Reader.ReadAnswer) → read_answer text n ≡ a → (m : Model) × (read_answer text n ≡ Reader.accepted m)
    go (Reader.refused x y) f =
        let s : Err (refusal x y) ≡ Ok tt = sym (ap read_of f) ∙ e in
        let z : ◌≡◌ {A = ℕ} 0 1 = cc in
        absurd (omega arith)
    go (Reader.accepted m) f = (m, f)

module _ (text : Bytes) (a : ReadAnswer) (e : a ≡ read_of (read_answer text (length {A = ℕ} (replicate table_words 0)))) where
  same_room : read_of (read_answer text (length {A = ℕ} (replicate table_words 0))) ≡ read_of (read_answer text table_words)
  same_room = ap (λ n. read_of (read_answer text n)) (length-replicate {A = ℕ} table_words 0)

  module _ (old : Bytes) (r : Refusal) (f : a ≡ Err r) where
    reads_row : read_answer text table_words ≡ Reader.refused r.row.0 r.line
    reads_row = read_row text table_words r (sym (e ∙ same_room) ∙ f)

    pub merge_text_refused : Err r ≡ outcome text (length old)
    unfolding outcome
    merge_text_refused = rw (reads_row, outcome)

    pub merge_text_untouched : old ≡ outcome_after text old
    unfolding outcome_after
    merge_text_untouched = rw (reads_row, outcome_after)

  module _ (f : a ≡ Ok tt) (table : List ℕ) (g : table ≡ table_after text (replicate table_words 0)) (old : Bytes) where
    read_model : (m : Model) × (read_answer text table_words ≡ Reader.accepted m)
    read_model = read_good text table_words (sym (e ∙ same_room) ∙ f)

    read_table : table ≡ table_of read_model.0
    unfolding table_after
    read_table =
        let h : read_answer text (length {A = ℕ} (replicate table_words 0)) ≡ Reader.accepted read_model.0 = ap (read_answer text) (length-replicate {A = ℕ} table_words 0) ∙ read_model.1 in
        let zeros : List ℕ = replicate table_words 0 in
        let few : length zeros ≤ table_words = omega (arith, length-replicate {A = ℕ} table_words 0) in
        let all : drop table_words zeros ≡ [] = drop_of_length-le zeros few in
        g ∙ rw (h, table_after) (ap (λ (l : List ℕ). table_of read_model.0 ++ l) all ∙ append-nil (table_of read_model.0))

    module _ (b : Result Merged Row) (eb : b ≡ merge_of (merge_answer table (length old))) where
      answer_is : passed_on b ≡ outcome text (length old)
      unfolding outcome
      answer_is = ap passed_on (eb ∙ ap (λ (t : List ℕ). merge_of (merge_answer t (length old))) read_table) ∙ rw (read_model.1, outcome)

      pub merge_text_merged : (m : Merged) → b ≡ Ok m → Ok m ≡ outcome text (length old)
      unfolding passed_on
      merge_text_merged m h = ap passed_on (sym h) ∙ answer_is

      pub merge_text_unmerged : (k : Row) → b ≡ Err k → Err (record { row = k; line = 0 }) ≡ outcome text (length old)
      unfolding passed_on
      merge_text_unmerged k h = ap passed_on (sym h) ∙ answer_is

    pub merge_text_written : (new : Bytes) → new ≡ merge_after (merge_answer table (length old)) old → new ≡ outcome_after text old
    unfolding outcome_after
    merge_text_written new en = en ∙ ap (λ (t : List ℕ). merge_after (merge_answer t (length old)) old) read_table ∙ rw (read_model.1, outcome_after)

pub ruleset merge_text_laws = (merge_text_refused, merge_text_untouched, merge_text_merged, merge_text_unmerged, merge_text_written)
