-- Demand 1 of the reader.
use Prim.Native.Nat.{ℕ, ◌≤◌, ◌<◌}
use mathlib.Core.Path.{◌≡◌, refl, sym, ap, ◌∙◌, subst, subst₂}
use mathlib.Core.Bool.{Bool, true, false}
use mathlib.Core.List.{List, ◌++◌}
use mathlib.Core.Logic.{◌↔◌}
use native.Mathlib.Omega.{arith}
use borrow.Author.Tests.{le-ltb}
use lib.ListN.{length, drop}
use lib.Dec.{ltb}
use Rattle.model.specs.Bounds.{max_bytes, table_words}
use Rattle.model.specs.Model.{Model}
use Rattle.model.specs.Table.{table_of, row18}
use Rattle.model.proofs.Tests.{lt_of, of_lt, le_of}
use Rattle.model.proofs.TableLaws.{table_length}
use Rattle.format.specs.Bytes.{Bytes}
use Rattle.format.specs.Reader.{ReadAnswer, refused, accepted, row1, read_answer, table_after}
use Rattle.format.proofs.Exact.{accepted_then, no_refusal}
use Rattle.format.proofs.Refusals.{same_refusal, refusal_first}
use Rattle.format.proofs.TextRuns.{table_read}
use Rattle.theorem_demands.specs.Rows.{FirstFault, by_18, by_1, by_line}
use Rattle.theorem_demands.specs.Calls.{PutInto, ReadCall}
use Rattle.theorem_demands.proofs.Memory.{put_first}

-- rows 18 and 1
answer_18 : (text : Bytes) (table : ℕ) → table < table_words → read_answer text table ≡ refused 18 0
unfolding read_answer row18
answer_18 text table l = rw (of_lt table table_words l, read_answer)

answer_1 : (text : Bytes) (table : ℕ) → table_words ≤ table → max_bytes < length text
    → read_answer text table ≡ refused 1 0
unfolding read_answer row18 row1
answer_1 text table a l = rw (le-ltb table table_words a, of_lt max_bytes (length text) l, read_answer)

-- the first fault is answered
fault_answered : (text : Bytes) (table row line : ℕ) → FirstFault text table row line
    → read_answer text table ≡ refused row line
fault_answered text table row line (by_18 l) = answer_18 text table l
fault_answered text table row line (by_1 a l) = answer_1 text table a l
fault_answered text table row line (by_line a b s) = (refusal_first text table row line a b).1 s

-- and an answer is the first fault
at_18 : (text : Bytes) (table row line : ℕ) → table < table_words → refused 18 0 ≡ refused row line
    → FirstFault text table row line
at_18 text table row line l h =
    let e = same_refusal 18 0 row line h in
    subst₂ (FirstFault text table) e.0 e.1 (by_18 l)

at_1 : (text : Bytes) (table row line : ℕ) → table_words ≤ table → max_bytes < length text
    → refused 1 0 ≡ refused row line → FirstFault text table row line
at_1 text table row line a l h =
    let e = same_refusal 1 0 row line h in
    subst₂ (FirstFault text table) e.0 e.1 (by_1 a l)

answered_fault : (text : Bytes) (table row line : ℕ) → read_answer text table ≡ refused row line
    → FirstFault text table row line
answered_fault text table row line h = go (ltb table table_words) refl (ltb max_bytes (length text)) refl
  where
    go : (b : Bool) → ltb table table_words ≡ b → (c : Bool) → ltb max_bytes (length text) ≡ c
        → FirstFault text table row line
    go true e c f = at_18 text table row line (lt_of _ _ e) (sym (answer_18 text table (lt_of _ _ e)) ∙ h)
    go false e true f =
        at_1 text table row line (le_of _ _ e) (lt_of _ _ f) (sym (answer_1 text table (le_of _ _ e) (lt_of _ _ f)) ∙ h)
    go false e false f =
        by_line (le_of _ _ e) (le_of _ _ f) ((refusal_first text table row line (le_of _ _ e) (le_of _ _ f)).0 h)

pub faults_exact : (text : Bytes) (table row line : ℕ) → (read_answer text table ≡ refused row line)
    ↔ FirstFault text table row line
faults_exact text table row line = (answered_fault text table row line, fault_answered text table row line)

pub accepted_exact : (text : Bytes) (table : ℕ) → ((m : Model) × (read_answer text table ≡ accepted m))
    ↔ ((row line : ℕ) → FirstFault text table row line → ⊥)
accepted_exact text table = (there, back (read_answer text table) refl)
  where
    there : ((m : Model) × (read_answer text table ≡ accepted m)) → (row line : ℕ) → FirstFault text table row line → ⊥
    there (m, h) row line f = no_refusal row line m (sym (fault_answered text table row line f) ∙ h)

    back : (x : ReadAnswer) → read_answer text table ≡ x → ((row line : ℕ) → FirstFault text table row line → ⊥)
        → (m : Model) × (read_answer text table ≡ accepted m)
    back (refused row line) e u = absurd (u row line (answered_fault text table row line e))
    back (accepted m) e u = (m, e)

module _ (text : Bytes) (lent : List ℕ) where
  kept : (row line : ℕ) → read_answer text (length lent) ≡ refused row line → table_after text lent ≡ lent
  unfolding table_after
  kept row line h = rw (h, table_after)

  words : (m : Model) → read_answer text (length lent) ≡ accepted m → length (table_of m) ≡ table_words
  words m h = table_length m (accepted_then text (length lent) m h).limited

  put : (m : Model) → read_answer text (length lent) ≡ accepted m → PutInto lent (table_of m) (table_after text lent)
  put m h =
      let n = words m h in
      let room = (accepted_then text (length lent) m h).room in
      let e : table_after text lent ≡ table_of m ++ drop (length (table_of m)) lent =
      table_read text lent m h ∙ ap (λ (k : ℕ). table_of m ++ drop k lent) (sym n) in
      subst (PutInto lent (table_of m)) (sym e) (put_first lent (table_of m) (omega arith))

  pub read_call : ReadCall text lent
  read_call = record {
    refused_exactly = faults_exact text (length lent);
    accepted_exactly = accepted_exact text (length lent);
    refused_keeps = kept;
    accepted_puts = put;
    words_put = words;
  }
