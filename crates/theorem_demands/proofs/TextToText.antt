-- Demand 1 from text to text.
use Prim.Native.Nat.{ℕ}
use mathlib.Core.Path.{◌≡◌, refl, sym, ap, ◌∙◌, subst, subst₂}
use mathlib.Core.List.{[], append-nil}
use mathlib.Core.Logic.{◌↔◌}
use native.Mathlib.Omega.{arith}
use lib.ListN.{length}
use Rattle.model.specs.Bounds.{max_bytes, table_words}
use Rattle.model.specs.Model.{Model}
use Rattle.model.specs.Table.{table_of, opened, open_table}
use Rattle.model.proofs.TableJudge.{table_opens}
use Rattle.format.specs.Bytes.{Bytes}
use Rattle.format.specs.Reader.{ReadAnswer, refused, accepted, read_answer}
use Rattle.format.specs.Writer.{with_text}
use Rattle.format.specs.Merger.{MergeAnswer, unmerged, merged, merge_answer, merge_after}
use Rattle.format.specs.Program.{refusal, merge_output, program_output}
use Rattle.format.specs.Refused.{Smallest}
use Rattle.format.proofs.Smallest.{rises_from}
use Rattle.format.proofs.Exact.{accepted_then}
use Rattle.format.proofs.TextRuns.{program_refuses_text}
use Rattle.std.proofs.Common.{Result, Ok, Err}
use Rattle.model.specs.declared.Row.{Row}
use Rattle.reader.specs.declared.Refusal.{Refusal}
use Rattle.reader.specs.Read.{refusal as refused_at}
use Rattle.merger.specs.declared.Merged.{Merged}
use Rattle.merger.specs.Answers.{report, merge_of}
use Rattle.merger.specs.Outcome.{passed_on, outcome, outcome_after}
use Rattle.theorem_demands.specs.Rows.{TextFault, of_text, of_merge, merger_rows}
use Rattle.theorem_demands.specs.Calls.{PutInto, TextCall}
use Rattle.theorem_demands.proofs.Memory.{put_first}
use Rattle.theorem_demands.proofs.Decided.{refused_by, own_decided}
use Rattle.theorem_demands.proofs.Reading.{faults_exact}
use Rattle.theorem_demands.proofs.Writing.{HasMerged, merge_tells, merge_decided, merge_fits}

-- what an answer of the merger tells
abbrev pub length_in : {E : Type 0} → Result Merged E → ℕ
length_in (Ok m) = m.length
length_in (Err e) = 0

abbrev pub edges_in : {E : Type 0} → Result Merged E → ℕ
edges_in (Ok m) = m.edges
edges_in (Err e) = 0

abbrev row_in : Result Merged Refusal → ℕ
row_in (Ok m) = 0
row_in (Err r) = r.row.0

abbrev line_in : Result Merged Refusal → ℕ
line_in (Ok m) = 0
line_in (Err r) = r.line

pub no_outcome : (row line bytes edges : ℕ) → ◌≡◌ {A = Result Merged Refusal} (Err (refused_at row line)) (Ok (report bytes edges)) → ⊥
no_outcome row line bytes edges h = let z : ◌≡◌ {A = ℕ} 0 1 = cc in omega arith

same_outcome : (row line row' line' : ℕ) → ◌≡◌ {A = Result Merged Refusal} (Err (refused_at row line)) (Err (refused_at row' line')) → (row ≡ row') × (line ≡ line')
same_outcome row line row' line' h =
    (ap row_in h, ap line_in h)

-- on an accepted text the merger's own rows decide
module _ (text : Bytes) (m : Model) (reads : read_answer text table_words ≡ accepted m) (b : ℕ) where
  pub opens : open_table (table_of m) ≡ opened m
  opens =
      ap open_table (sym (append-nil (table_of m))) ∙ table_opens m (accepted_then text table_words m reads).limited []

  pub merge_row : (row : ℕ) → (merge_answer (table_of m) b ≡ unmerged row) ↔ Smallest (merger_rows b m) row
  unfolding merger_rows rises_from
  merge_row =
      refused_by unmerged HasMerged merge_tells _ _ refl
      (own_decided (merger_rows b) (table_of m) unmerged HasMerged _ m opens (merge_decided (table_of m) b))

module _ (text lent : Bytes) where
  -- the three ways out
  pub data Ends : Type 0 where
    unread : (row line : ℕ) → read_answer text table_words ≡ refused row line
        → outcome text (length lent) ≡ Err (refused_at row line) → outcome_after text lent ≡ lent → Ends
    unfit : (m : Model) (row : ℕ) → read_answer text table_words ≡ accepted m
        → merge_answer (table_of m) (length lent) ≡ unmerged row
        → outcome text (length lent) ≡ Err (refused_at row 0) → outcome_after text lent ≡ lent → Ends
    gives : (m : Model) (text' : Bytes) (edges : ℕ) → read_answer text table_words ≡ accepted m
        → merge_answer (table_of m) (length lent) ≡ merged text' edges
        → outcome text (length lent) ≡ Ok (report (length text') edges) → outcome_after text lent ≡ with_text text' lent → Ends

  pub ends : Ends
  unfolding outcome outcome_after merge_of passed_on merge_after
  ends = go (read_answer text table_words) refl
    where
      merges : (m : Model) → read_answer text table_words ≡ accepted m → (x : MergeAnswer)
          → merge_answer (table_of m) (length lent) ≡ x → Ends
      merges m e (unmerged row) f = unfit m row e f (rw (e, outcome, f)) (rw (e, outcome_after, f))
      merges m e (merged text' edges) f = gives m text' edges e f (rw (e, outcome, f)) (rw (e, outcome_after, f))

      go : (x : ReadAnswer) → read_answer text table_words ≡ x → Ends
      go (refused row line) e = unread row line e (rw (e, outcome)) (rw (e, outcome_after))
      go (accepted m) e = merges m e (merge_answer (table_of m) (length lent)) refl

  fault_of : (row line : ℕ) → outcome text (length lent) ≡ Err (refused_at row line) → Ends
      → TextFault text (length lent) row line
  fault_of row line h (unread at n e o k) =
      let q = same_outcome at n row line (sym o ∙ h) in
      subst₂ (TextFault text (length lent)) q.0 q.1 (of_text ((faults_exact text table_words at n).0 e))
  fault_of row line h (unfit m at e f o k) =
      let q = same_outcome at 0 row line (sym o ∙ h) in
      subst₂ (TextFault text (length lent)) q.0 q.1 (of_merge e ((merge_row text m e (length lent) at).0 f))
  fault_of row line h (gives m text' edges e f o k) = absurd (no_outcome row line (length text') edges (sym h ∙ o))

  fault_told : (row line : ℕ) → TextFault text (length lent) row line → outcome text (length lent) ≡ Err (refused_at row line)
  unfolding outcome merge_of passed_on
  fault_told row line (of_text f) = rw ((faults_exact text table_words row line).1 f, outcome)
  fault_told row line (of_merge {m = m} e s) = rw (e, outcome, (merge_row text m e (length lent) row).1 s)

  keeps : (row line : ℕ) → outcome text (length lent) ≡ Err (refused_at row line) → Ends → outcome_after text lent ≡ lent
  keeps row line h (unread at n e o k) = k
  keeps row line h (unfit m at e f o k) = k
  keeps row line h (gives m text' edges e f o k) = absurd (no_outcome row line (length text') edges (sym h ∙ o))

  puts : (bytes edges : ℕ) → outcome text (length lent) ≡ Ok (report bytes edges) → Ends
      → (text' : Bytes) × (length text' ≡ bytes) × PutInto lent text' (outcome_after text lent)
  unfolding with_text
  puts bytes edges h (unread at n e o k) = absurd (no_outcome at n bytes edges (sym o ∙ h))
  puts bytes edges h (unfit m at e f o k) = absurd (no_outcome at 0 bytes edges (sym o ∙ h))
  puts bytes edges h (gives m text' edges' e f o k) =
      let q : ◌≡◌ {A = Result Merged Refusal} (Ok (report (length text') edges')) (Ok (report bytes edges)) = sym o ∙ h in
      let n : length text' ≡ bytes = ap length_in q in
      (text', n, subst (PutInto lent text') (sym k) (put_first lent text' (merge_fits (table_of m) (length lent) text' edges' f)))

  accepts : Ends → ((row line : ℕ) → TextFault text (length lent) row line → ⊥)
      → (bytes edges : ℕ) × (outcome text (length lent) ≡ Ok (report bytes edges))
  accepts (unread at n e o k) u = absurd (u at n (of_text ((faults_exact text table_words at n).0 e)))
  accepts (unfit m at e f o k) u = absurd (u at 0 (of_merge e ((merge_row text m e (length lent) at).0 f)))
  accepts (gives m text' edges e f o k) u = (length text', edges, o)

  pub text_call : TextCall text lent
  text_call = record {
    refused_exactly = λ row line. (λ h. fault_of row line h ends, fault_told row line);
    accepted_exactly =
        (λ (bytes, edges, h) row line f. no_outcome row line bytes edges (sym (fault_told row line f) ∙ h), accepts ends);
    refused_keeps = λ row line h. keeps row line h ends;
    accepted_puts = λ bytes edges h. puts bytes edges h ends;
  }

-- a refusal is printed
pub refusal_printed : (text : Bytes) (row line : ℕ) → TextFault text max_bytes row line
    → program_output text ≡ refusal row line
unfolding program_output merge_output
refusal_printed text row line (of_text f) =
    program_refuses_text text row line ((faults_exact text table_words row line).1 f)
refusal_printed text row line (of_merge {m = m} e s) = rw (e, program_output, (merge_row text m e max_bytes row).1 s)
