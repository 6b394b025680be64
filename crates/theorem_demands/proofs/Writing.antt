-- Demand 1 of the writer and of the merger, from a table and from a text.
use Prim.Native.Nat.{ℕ, ◌≤◌}
use mathlib.Core.Path.{◌≡◌, refl, sym, ap, ◌∙◌, subst}
use mathlib.Core.Bool.{Bool, true, false}
use mathlib.Core.List.{List}
use mathlib.Core.Option.{Option, none, some}
use native.Mathlib.Omega.{arith}
use borrow.Author.Tests.{ltb-false}
use lib.ListN.{length}
use lib.Dec.{ltb}
use Rattle.model.specs.Basic.{lacks}
use Rattle.model.specs.Bounds.{max_edges}
use Rattle.model.specs.Model.{Model}
use Rattle.model.specs.Limits.{broken}
use Rattle.model.specs.Lawful.{Lawful}
use Rattle.model.specs.Table.{model_of, row19, unopened, opened, open_table}
use Rattle.model.specs.Linear as L
use Rattle.model.proofs.LimitsLaws.{lawful_is}
use Rattle.model.proofs.TableLaws.{model_given}
use Rattle.model.proofs.Distinct.{count_is}
use Rattle.format.specs.Bytes.{Bytes}
use Rattle.format.specs.Spelling.{text_of}
use Rattle.format.specs.Writer.{WriteAnswer, unwritten, written, row35, write_answer, with_text, buffer_after}
use Rattle.format.specs.Merger.{MergeAnswer, unmerged, merged, merge_answer, merge_after}
use Rattle.format.proofs.Smallest.{first_of, rises_from}
use Rattle.theorem_definition4.specs.Definition4.{breaks, first_row}
use Rattle.theorem_definition4.proofs.Definition4Is.{merge_is_definition_4, merge_refuses}
use Rattle.format.proofs.TextRuns.{no_merge}
use Rattle.theorem_demands.specs.Rows.{own_rows, table_rows, writer_rows, row32, merger_rows}
use Rattle.theorem_demands.specs.Calls.{WriteCall, MergeCall}
use Rattle.theorem_demands.proofs.Memory.{put_first}
use Rattle.theorem_demands.proofs.Decided.{Decided, by_row, by_none, Tells, refused_by, accepted_by, table_rise, table_decided, Opening, short, no_model, of_model, opening}

-- the writer
no_write : (row : ℕ) (text : Bytes) → unwritten row ≡ written text → ⊥
no_write row text h = let z : ◌≡◌ {A = ℕ} 0 1 = cc in omega arith

abbrev Wrote : WriteAnswer → Type 0
Wrote x = (text : Bytes) × (x ≡ written text)

write_tells : Tells unwritten Wrote
write_tells = record { row_told = λ row other e. cc; apart = λ row g. no_write row g.0 g.1 }

module _ (t : List ℕ) (b : ℕ) where
  write_unopened : (row : ℕ) → open_table t ≡ unopened row → write_answer t b ≡ unwritten row
  unfolding write_answer
  write_unopened row o = rw (o, write_answer)

  write_35 : (m : Model) → open_table t ≡ opened m → row35 b (text_of m) ≡ true → write_answer t b ≡ unwritten 35
  unfolding write_answer
  write_35 m o e = rw (o, write_answer, e)

  write_text : (m : Model) → open_table t ≡ opened m → row35 b (text_of m) ≡ false → write_answer t b ≡ written (text_of m)
  unfolding write_answer
  write_text m o e = rw (o, write_answer, e)

  write_opened : (m : Model) → open_table t ≡ opened m → Decided unwritten Wrote (writer_rows b m) (write_answer t b)
  unfolding writer_rows first_of broken
  write_opened m o = go (row35 b (text_of m)) refl
    where
      go : (c : Bool) → row35 b (text_of m) ≡ c → Decided unwritten Wrote (writer_rows b m) (write_answer t b)
      go true e = by_row 35 (rw e) (write_35 m o e)
      go false e = by_none (rw e) (text_of m, write_text m o e)

  write_decided : Decided unwritten Wrote (table_rows (writer_rows b) t) (write_answer t b)
  write_decided = table_decided (writer_rows b) t unwritten Wrote (write_answer t b) write_unopened write_opened

  write_rise : rises_from 0 (table_rows (writer_rows b) t) ≡ true
  write_rise = table_rise (writer_rows b) t (λ m. unfold writer_rows rises_from in refl)

  -- a text that is written is the sheet's, and has room
  pub written_then : (text : Bytes) → write_answer t b ≡ written text
      → (m : Model) × (open_table t ≡ opened m) × (text ≡ text_of m) × (length text ≤ b)
  unfolding row35
  written_then text h = go (opening t)
    where
      at : (m : Model) → open_table t ≡ opened m → (c : Bool) → row35 b (text_of m) ≡ c
          → (text ≡ text_of m) × (length text ≤ b)
      at m o true e = absurd (no_write 35 text (sym (write_35 m o e) ∙ h))
      at m o false e =
          let x : written (text_of m) ≡ written text = sym (write_text m o e) ∙ h in
          let q : text ≡ text_of m = cc in
          (q, subst (λ (s : Bytes). length s ≤ b) (sym q) (ltb-false b (length (text_of m)) e))

      go : Opening t → (m : Model) × (open_table t ≡ opened m) × (text ≡ text_of m) × (length text ≤ b)
      go (short e o) = absurd (no_write 18 text (sym (write_unopened 18 o) ∙ h))
      go (no_model e p o) = absurd (no_write 19 text (sym (write_unopened 19 o) ∙ h))
      go (of_model m e p o) = let r = at m o (row35 b (text_of m)) refl in (m, o, r.0, r.1)

pub write_call : (t : List ℕ) (lent : Bytes) → WriteCall t lent
unfolding buffer_after with_text
write_call t lent = record {
  refused_exactly = refused_by unwritten Wrote write_tells _ _ (write_rise t b) (write_decided t b);
  accepted_exactly = accepted_by unwritten Wrote write_tells _ _ (write_decided t b);
  refused_keeps = λ row h. rw h;
  accepted_puts = λ text h. rw h (put_first lent text (written_then t b text h).3);
}
  where
    b : ℕ
    b = length lent

-- the merger
abbrev pub HasMerged : MergeAnswer → Type 0
HasMerged x = (text : Bytes) × (edges : ℕ) × (x ≡ merged text edges)

pub merge_tells : Tells unmerged HasMerged
merge_tells = record { row_told = λ row other e. cc; apart = λ row g. no_merge row g.1 g.0 g.2 }

-- row 32 counts the merged edges
counts : (m : Model) → Lawful m → row32 m ≡ L.row32 m
unfolding row32 L.row32
counts m lawful = ap (ltb max_edges) (count_is m lawful)

module _ (t : List ℕ) (b : ℕ) where
  -- the merger's rows in their order are Definition 4's `first_row`
  rows_same : first_of (table_rows (merger_rows b) t) ≡ first_row t b
  unfolding table_rows own_rows merger_rows first_of first_row broken row19 lacks breaks
  rows_same = go (model_of t) refl
    where
      go : (o : Option Model) → model_of t ≡ o → first_of (table_rows (merger_rows b) t) ≡ first_row t b
      go none p = rw (p, breaks)
      go (some m) p = rw (p, breaks, counts m ((lawful_is m).0 (model_given t m p).0))

  pub merge_decided : Decided unmerged HasMerged (table_rows (merger_rows b) t) (merge_answer t b)
  merge_decided = go (merge_answer t b) refl (first_row t b) refl
    where
      go : (x : MergeAnswer) → merge_answer t b ≡ x → (o : Option ℕ) → first_row t b ≡ o
          → Decided unmerged HasMerged (table_rows (merger_rows b) t) (merge_answer t b)
      go (unmerged row) e o p = by_row row (rows_same ∙ (merge_refuses t b row).0 e) e
      go (merged text edges) e (some row) p = absurd (no_merge row edges text (sym ((merge_refuses t b row).1 p) ∙ e))
      go (merged text edges) e none p = by_none (rows_same ∙ p) (text, edges, e)

  merge_rise : rises_from 0 (table_rows (merger_rows b) t) ≡ true
  merge_rise = table_rise (merger_rows b) t (λ m. unfold merger_rows rises_from in refl)

  pub merge_fits : (text : Bytes) (edges : ℕ) → merge_answer t b ≡ merged text edges → length text ≤ b
  merge_fits text edges h =
      let (m, o, u, l, q, c) = (merge_is_definition_4 t b text edges).0 h in
      subst (λ (s : Bytes). length s ≤ b) (sym q) l

pub merge_call : (t : List ℕ) (lent : Bytes) → MergeCall t lent
unfolding merge_after with_text
merge_call t lent = record {
  refused_exactly = refused_by unmerged HasMerged merge_tells _ _ (merge_rise t b) (merge_decided t b);
  accepted_exactly = accepted_by unmerged HasMerged merge_tells _ _ (merge_decided t b);
  refused_keeps = λ row h. rw h;
  accepted_puts = λ text edges h. rw h (put_first lent text (merge_fits t b text edges h));
}
  where
    b : ℕ
    b = length lent
