-- Each way out of the code of `merge`: the linearization that was found, and its text.
use mathlib.Core.Path.{◌≡◌, refl, sym, ap, ◌∙◌, subst}
use mathlib.Core.Bool.{Bool, true, false}
use mathlib.Core.List.{List, [], ◌++◌, append-nil}
use mathlib.Core.Option.{Option, none, some}
use Prim.Native.Nat.{ℕ}
use native.Mathlib.Omega.{arith}
use lib.ListN.{length}
use Rattle.model.specs.Model.{Model}
use Rattle.model.specs.Table.{table_of, Opened, unopened, opened, open_table}
use Rattle.model.specs.Linear.{linear, merged_count, merge_fault}
use Rattle.model.proofs.LinearLimits.{linear_lawful}
use Rattle.table_places.proofs.OutlineLaws.{table_sheet}
use Rattle.table_places.proofs.Opened.{sheet_of}
use Rattle.format.specs.Bytes.{Bytes}
use Rattle.format.specs.Spelling.{text_of}
use Rattle.format.specs.Writer as F
use Rattle.format.specs.Writer.{row35, buffer_after}
use Rattle.format.specs.Merger.{MergeAnswer as Answer, unmerged, merged, merge_model, merge_answer, merge_after}
use Rattle.std.specs.Prelude.{Some, None, Result, Ok, Err}
use Rattle.std.proofs.lemmas.Option.{none-some, same_Some}
use Rattle.model.specs.declared.Row.{Row}
use Rattle.model.specs.Row.{row}
use Rattle.write_words.specs.Answer.{words_answer, copy_answer, given, Answered}
use Rattle.writer.proofs.SheetText.{words_text}
use Rattle.merge_words.specs.declared.Linearization.{Linearization}
use Rattle.merge_words.specs.Linearize.{refused_by, merged_to}
use Rattle.merge_table.specs.Linearization.{linear_model, linearization_of, linearization}
use Rattle.merger.specs.declared.Merged.{Merged}
use Rattle.merger.specs.Answers.{merge_of, reported_of}

-- where a row refuses
module _ (t : List ℕ) (l : Linearization) (e : l ≡ linearization t) where
  row_of : (x : Linearization) → linearization t ≡ x → x.row ≡ l.row
  row_of x z = sym (ap (λ (y : Linearization). y.row) (e ∙ z))

  answers_row : (k : Row) → l.row ≡ Some k → (buffer : ℕ) → merge_answer t buffer ≡ unmerged k.0
  unfolding merge_answer linearization linearization_of linear_model refused_by merged_to merge_model
  answers_row k h buffer = go (open_table t) refl
    where
      said : (n : ℕ) → linearization t ≡ refused_by n → n ≡ k.0
      said n z = ap (λ (y : Row). y.0) (same_Some (row n) k (row_of (refused_by n) z ∙ h))

      in_model : (m : Model) → open_table t ≡ opened m → (o : Option ℕ) → merge_fault m ≡ o → merge_model m buffer ≡ unmerged k.0
      in_model m p (some n) q =
          let z : linearization t ≡ refused_by n = rw (p, linearization_of, q, linear_model) in
          rw (q, merge_model) (ap unmerged (said n z))
      in_model m p none q =
          let z : linearization t ≡ merged_to (merged_count m) (table_of (linear m)) = rw (p, linearization_of, q, linear_model) in
          absurd (none-some k (row_of (merged_to (merged_count m) (table_of (linear m))) z ∙ h))

      go : (o : Opened) → open_table t ≡ o → merge_answer t buffer ≡ unmerged k.0
      go (unopened n) p =
          let z : linearization t ≡ refused_by n = rw (p, linearization_of) in
          rw (p, merge_answer) (ap unmerged (said n z))
      go (opened m) p = rw (p, merge_answer) (in_model m p (merge_fault m) refl)

  module _ (k : Row) (h : l.row ≡ Some k) (old : Bytes) where
    pub merge_refused : Err k ≡ merge_of (merge_answer t (length old))
    unfolding merge_of
    merge_refused = sym (ap merge_of (answers_row k h (length old)))

    pub merge_untouched : old ≡ merge_after (merge_answer t (length old)) old
    unfolding merge_after
    merge_untouched = sym (ap (λ (a : Answer). merge_after a old) (answers_row k h (length old)))

  -- where none does, it is the merged model of the table's
  record Found : Type 0 where
    model : Model
    opens : open_table t ≡ opened model
    unrefused : merge_fault model ≡ none
    edges : l.edges ≡ merged_count model
    table : l.table ≡ table_of (linear model)

  found_merged : l.row ≡ None → Found
  unfolding linearization linearization_of linear_model refused_by merged_to
  found_merged h = go (open_table t) refl
    where
      unsaid : (n : ℕ) → linearization t ≡ refused_by n → ⊥
      unsaid n z = none-some (row n) (sym (row_of (refused_by n) z ∙ h))

      in_model : (m : Model) → open_table t ≡ opened m → (o : Option ℕ) → merge_fault m ≡ o → Found
      in_model m p (some n) q =
          let z : linearization t ≡ refused_by n = rw (p, linearization_of, q, linear_model) in
          absurd (unsaid n z)
      in_model m p none q =
          let z : linearization t ≡ merged_to (merged_count m) (table_of (linear m)) = rw (p, linearization_of, q, linear_model) in
          record { model = m; opens = p; unrefused = q; edges = ap (λ (x : Linearization). x.edges) (e ∙ z); table = ap (λ (x : Linearization). x.table) (e ∙ z) }

      go : (o : Opened) → open_table t ≡ o → Found
      go (unopened n) p =
          let z : linearization t ≡ refused_by n = rw (p, linearization_of) in
          absurd (unsaid n z)
      go (opened m) p = in_model m p (merge_fault m) refl

-- what the writer says of a text, with its count of edges, is what the merger says of it
module _ (m : Model) (t : List ℕ) (p : open_table t ≡ opened m) (q : merge_fault m ≡ none) (old new : Bytes) (w : Result ℕ Row) (a : Answered (copy_answer (text_of (linear m)) (length old)) old new w) where
  in_words : merge_answer t (length old) ≡ merge_model m (length old)
  unfolding merge_answer
  in_words = rw (p, merge_answer)

  said : (b : Bool) → row35 (length old) (text_of (linear m)) ≡ b
      → (reported_of w (merged_count m) ≡ merge_of (merge_model m (length old))) × (new ≡ merge_after (merge_model m (length old)) old)
  unfolding merge_model copy_answer given buffer_after reported_of merge_of merge_after
  said true f =
      let c : copy_answer (text_of (linear m)) (length old) ≡ F.unwritten 35 = rw (f, copy_answer) in
      let g : merge_model m (length old) ≡ unmerged 35 = rw (q, merge_model, f) in (
        ap (λ (x : Result ℕ Row). reported_of x (merged_count m)) (a.answer ∙ ap given c) ∙ sym (ap merge_of g),
        a.memory ∙ ap (λ (x : F.WriteAnswer). buffer_after x old) c ∙ sym (ap (λ (x : Answer). merge_after x old) g),
      )
  said false f =
      let c : copy_answer (text_of (linear m)) (length old) ≡ F.written (text_of (linear m)) = rw (f, copy_answer) in
      let g : merge_model m (length old) ≡ merged (text_of (linear m)) (merged_count m) = rw (q, merge_model, f) in (
        ap (λ (x : Result ℕ Row). reported_of x (merged_count m)) (a.answer ∙ ap given c) ∙ sym (ap merge_of g),
        a.memory ∙ ap (λ (x : F.WriteAnswer). buffer_after x old) c ∙ sym (ap (λ (x : Answer). merge_after x old) g),
      )

  pub said_of : (reported_of w (merged_count m) ≡ merge_of (merge_answer t (length old))) × (new ≡ merge_after (merge_answer t (length old)) old)
  said_of =
      let s = said (row35 (length old) (text_of (linear m))) refl in
      (s.0 ∙ sym (ap merge_of in_words), s.1 ∙ sym (ap (λ (x : Answer). merge_after x old) in_words))

-- the words of the merged model's table spell its text
module _ (t : List ℕ) (l : Linearization) (e : l ≡ linearization t) (h : l.row ≡ None) (ws : List ℕ) (ew : ws ≡ l.table) (old new : Bytes) (w : Result ℕ Row)
    (a : Answered (words_answer 65536 ws (length old)) old new w) where
  both : (reported_of w l.edges ≡ merge_of (merge_answer t (length old))) × (new ≡ merge_after (merge_answer t (length old)) old)
  both =
      let f = found_merged t l e h in
      let m = f.model in
      let s = sheet_of t m f.opens in
      let law = linear_lawful m s.lawful f.unrefused in
      let stands : ws ≡ table_of (linear m) ++ [] = ew ∙ f.table ∙ sym (append-nil (table_of (linear m))) in
      let spelled = words_text (linear m) law ws _ (table_sheet ws [] (linear m) stands) 65536 (omega arith) old in
      let b : Answered (copy_answer (text_of (linear m)) (length old)) old new w = subst (λ (x : F.WriteAnswer). Answered x old new w) spelled a in
      let r = said_of m t f.opens f.unrefused old new w b in
      (ap (reported_of w) f.edges ∙ r.0, r.1)

  pub merge_row : (k : Row) → w ≡ Err k → Err k ≡ merge_of (merge_answer t (length old))
  unfolding reported_of
  merge_row k g = sym (ap (λ (x : Result ℕ Row). reported_of x l.edges) g) ∙ both.0

  pub merge_text : (n : ℕ) → w ≡ Ok n → Ok (record { length = n; edges = l.edges }) ≡ merge_of (merge_answer t (length old))
  unfolding reported_of
  merge_text n g = sym (ap (λ (x : Result ℕ Row). reported_of x l.edges) g) ∙ both.0

  pub merge_written : new ≡ merge_after (merge_answer t (length old)) old
  merge_written = both.1

pub ruleset merge_laws = (merge_refused, merge_untouched, merge_row, merge_text, merge_written)
