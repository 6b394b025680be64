-- The merged text: the reader accepts it, it fits, the program prints it, and runs over its table and over the composition's
-- are alike.
use Prim.Native.Nat.{ℕ, ◌≤◌}
use mathlib.Core.Path.{◌≡◌, refl, sym, ap, ◌∙◌, subst₂}
use mathlib.Core.Bool.{Bool, true, false}
use mathlib.Core.List.{List, [], ◌++◌, append-nil}
use mathlib.Core.Option.{Option, none, some}
use native.Mathlib.Omega.{arith}
use borrow.Author.Tests.{ltb-false, le-ltb}
use lib.ListN.{length, drop}
use Rattle.model.specs.Bounds.{max_bytes, table_words}
use Rattle.model.specs.Model.{Model}
use Rattle.model.specs.Limits.{limits}
use Rattle.model.specs.Table.{table_of}
use Rattle.model.specs.Rules.{State}
use Rattle.model.specs.Linear.{linear, merged_count, merge_fault}
use Rattle.model.specs.Runs.{IsState, Proposal, table_judge, RunsAlike}
use Rattle.model.proofs.LinearLimits.{linear_limited}
use Rattle.model.proofs.TableJudge.{table_opens}
use Rattle.model.proofs.TableRuns.{runs_alike_tables}
use Rattle.format.specs.Bytes.{Bytes}
use Rattle.format.specs.Spelling.{text_of}
use Rattle.format.specs.Reader.{refused, accepted, read_answer, table_after}
use Rattle.format.specs.Writer.{row35}
use Rattle.format.specs.Merger.{unmerged, merged, merge_model, merge_answer}
use Rattle.format.specs.Program.{refusal, merge_output, program_output}
use Rattle.format.proofs.Exact.{accepted_then}
use Rattle.format.proofs.Given.{reader_exact}

-- what the reader accepts and no row of the merger refuses has a merged text that the reader accepts
pub merged_accepted : (text : Bytes) (m : Model) → read_answer text table_words ≡ accepted m → merge_fault m ≡ none → read_answer (text_of (linear m)) table_words ≡ accepted (linear m)
merged_accepted text m h u = (reader_exact (text_of (linear m)) table_words (linear m)).1 (omega arith, linear_limited m (accepted_then text table_words m h).limited u, refl)

-- so it has at most 65,536 bytes
pub merged_fits : (text : Bytes) (m : Model) → read_answer text table_words ≡ accepted m → merge_fault m ≡ none → length (text_of (linear m)) ≤ max_bytes
merged_fits text m h u = (accepted_then (text_of (linear m)) table_words (linear m) (merged_accepted text m h u)).short

-- a model's table is merged as the model is
merge_table : (m : Model) → limits m ≡ true → (rest : List ℕ) (buffer : ℕ) → merge_answer (table_of m ++ rest) buffer ≡ merge_model m buffer
unfolding merge_answer
merge_table m limited rest buffer = rw (table_opens m limited rest, merge_answer)

-- the merger's answer, where no row refuses and where one does
merge_answers : (m : Model) (buffer : ℕ) → merge_fault m ≡ none → length (text_of (linear m)) ≤ buffer → merge_model m buffer ≡ merged (text_of (linear m)) (merged_count m)
unfolding merge_model row35
merge_answers m buffer u l = rw (u, merge_model, le-ltb buffer (length (text_of (linear m))) l)

merge_refuses : (m : Model) (buffer row : ℕ) → merge_fault m ≡ some row → merge_model m buffer ≡ unmerged row
unfolding merge_model
merge_refuses m buffer row e = rw (e, merge_model)

-- a text that the merger gave is the merged text
pub no_merge : (row edges : ℕ) (text : Bytes) → unmerged row ≡ merged text edges → ⊥
no_merge row edges text h = let z : ◌≡◌ {A = ℕ} 0 1 = cc in omega arith

pub merged_then : (m : Model) (buffer : ℕ) (text : Bytes) (edges : ℕ) → merge_model m buffer ≡ merged text edges → (merge_fault m ≡ none) × (text ≡ text_of (linear m))
unfolding merge_model row35
merged_then m buffer text edges h = go (merge_fault m) refl
  where
    last : merge_fault m ≡ none → (b : Bool) → row35 buffer (text_of (linear m)) ≡ b → text ≡ text_of (linear m)
    last u true e = absurd (no_merge 35 edges text (sym (rw (u, merge_model, e)) ∙ h))
    last u false e = let x : merged (text_of (linear m)) (merged_count m) ≡ merged text edges = sym (merge_answers m buffer u (ltb-false buffer _ e)) ∙ h in cc

    go : (o : Option ℕ) → merge_fault m ≡ o → (merge_fault m ≡ none) × (text ≡ text_of (linear m))
    go none u = (u, last u (row35 buffer (text_of (linear m))) refl)
    go (some row) u = absurd (no_merge row edges text (sym (merge_refuses m buffer row u) ∙ h))

-- the program, on an accepted text: it says what the merger says of the model
program_merges : (text : Bytes) (m : Model) → read_answer text table_words ≡ accepted m → program_output text ≡ merge_output (merge_model m max_bytes)
unfolding program_output
program_merges text m h =
    rw (h, program_output)
    (ap (λ t. merge_output (merge_answer t max_bytes)) (sym (append-nil (table_of m))) ∙ ap merge_output (merge_table m (accepted_then text table_words m h).limited [] max_bytes))

-- it prints the merged text; row 35 never refuses it
pub program_prints : (text : Bytes) (m : Model) → read_answer text table_words ≡ accepted m → merge_fault m ≡ none → program_output text ≡ text_of (linear m)
unfolding merge_output
program_prints text m h u = program_merges text m h ∙ ap merge_output (merge_answers m max_bytes u (merged_fits text m h u))

-- or the refusal: the reader's with its line, the merger's with line 0
pub program_refuses_text : (text : Bytes) (row line : ℕ) → read_answer text table_words ≡ refused row line → program_output text ≡ refusal row line
unfolding program_output
program_refuses_text text row line h = rw (h, program_output)

pub program_refuses_merge : (text : Bytes) (m : Model) (row : ℕ) → read_answer text table_words ≡ accepted m → merge_fault m ≡ some row → program_output text ≡ refusal row 0
unfolding merge_output
program_refuses_merge text m row h e = program_merges text m h ∙ ap merge_output (merge_refuses m max_bytes row e)

-- the table that the reader gives
pub table_read : (text : Bytes) (lent : List ℕ) (m : Model) → read_answer text (length lent) ≡ accepted m → table_after text lent ≡ table_of m ++ drop table_words lent
unfolding table_after
table_read text lent m h = rw (h, table_after)

-- Two tables, lent to the reader for an accepted text and for its merged text: runs over them are alike.
module _ (text : Bytes) (m : Model) (lent : List ℕ) (read : read_answer text (length lent) ≡ accepted m) (lent' : List ℕ) (room : table_words ≤ length lent') (ps : List Proposal) (s : State) (at-state : IsState m s) where
  tables_alike : merge_fault m ≡ none → RunsAlike m (table_judge (table_after text lent)) (table_judge (table_after (text_of (linear m)) lent')) s ps
  tables_alike u =
      let limited = (accepted_then text (length lent) m read).limited in
      let read' = (reader_exact (text_of (linear m)) (length lent') (linear m)).1 (room, linear_limited m limited u, refl) in
      subst₂ (λ (t t' : List ℕ). RunsAlike m (table_judge t) (table_judge t') s ps) (sym (table_read text lent m read)) (sym (table_read (text_of (linear m)) lent' (linear m) read'))
      (runs_alike_tables m limited u (drop table_words lent) (drop table_words lent') ps s at-state)

  -- the merged text as the merger gives it, for the first table
  pub runs_alike_texts : (buffer : ℕ) (text' : Bytes) (edges : ℕ) → merge_answer (table_after text lent) buffer ≡ merged text' edges
      → RunsAlike m (table_judge (table_after text lent)) (table_judge (table_after text' lent')) s ps
  runs_alike_texts buffer text' edges h =
      let limited = (accepted_then text (length lent) m read).limited in
      let answer = sym (merge_table m limited (drop table_words lent) buffer) ∙ ap (λ t. merge_answer t buffer) (sym (table_read text lent m read)) ∙ h in
      let e = merged_then m buffer text' edges answer in
      rw e.1 (tables_alike e.0)

  -- and as the program prints it
  pub runs_alike_program : merge_fault m ≡ none → RunsAlike m (table_judge (table_after text lent)) (table_judge (table_after (program_output text) lent')) s ps
  runs_alike_program u =
      let x = accepted_then text (length lent) m read in
      rw (program_prints text m ((reader_exact text table_words m).1 (omega arith, x.limited, x.spelled)) u) (tables_alike u)
