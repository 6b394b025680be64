-- Demand 3: an accepted text and its merged text run as one.
use Prim.Native.Nat.{ℕ, ◌≤◌}
use mathlib.Core.Path.{◌≡◌, fun_ext, sym, ap, ◌∙◌, subst, subst₂}
use mathlib.Core.List.{List, ◌++◌}
use mathlib.Core.Option.{none}
use lib.ListN.{length, drop, take-append-drop}
use Rattle.model.specs.Bounds.{table_words, owners_format}
use Rattle.model.specs.Model.{Model}
use Rattle.model.specs.Lawful.{Lawful}
use Rattle.model.specs.Table.{table_of, opened, open_table}
use Rattle.model.specs.Rules.{State}
use Rattle.model.specs.Linear.{linear, merge_fault}
use Rattle.model.specs.Runs.{IsState, Proposal, Judge, model_judge, table_judge, run, RunsAlike}
use Rattle.model.proofs.LimitsLaws.{lawful_is}
use Rattle.model.proofs.TableJudge.{table_judge_is}
use Rattle.model.proofs.TableLaws.{model_given, opened_model}
use Rattle.format.specs.Bytes.{Bytes}
use Rattle.format.specs.Reader.{accepted, read_answer, table_after}
use Rattle.format.specs.Merger.{merged, merge_answer}
use Rattle.format.specs.Program.{program_output}
use Rattle.format.proofs.Exact.{accepted_then}
use Rattle.format.proofs.TextRuns.{table_read, runs_alike_texts, runs_alike_program}
use Rattle.theorem_runs.specs.Demand.{ByRules, RunsAsOne}
use Rattle.theorem_runs.specs.Owned.{Free, free_run, ChangesAlike, OwnedRuns}
use Rattle.theorem_runs.proofs.Owned.{FreeAlike, free_alike, changes_alike}
use Rattle.theorem_runs.proofs.Answers.{answer_by_rules}
use Rattle.theorem_runs.proofs.Points.{run_length, answer_is, run_state}
use Rattle.theorem_runs.proofs.Moves.{moves_alike}
use Rattle.theorem_runs.proofs.Tables.{text_opens, merged_opens, program_opens}

-- the table of an accepted text judges as its model does
module _ (text : Bytes) (m : Model) (lent : List ℕ) (reads : read_answer text (length lent) ≡ accepted m) where
  text_lawful : Lawful m
  text_lawful = (lawful_is m).0 (accepted_then text (length lent) m reads).limited

  text_judges : model_judge m ≡ table_judge (table_after text lent)
  text_judges = fun_ext λ s. fun_ext λ p.
      sym (table_judge_is m (accepted_then text (length lent) m reads).limited (drop table_words lent) s p)
      ∙ ap (λ t. table_judge t s p) (sym (table_read text lent m reads))

  -- so it answers by the rows and the rules, and a run over it goes from states to states
  text_by_rules : (s : State) (p : Proposal) → ByRules m s p (table_judge (table_after text lent) s p)
  text_by_rules s p = subst (λ (judge : Judge). ByRules m s p (judge s p)) text_judges (answer_by_rules m text_lawful s p)

  text_state : (ps : List Proposal) (s : State) → IsState m s → IsState m (run (table_judge (table_after text lent)) s ps).end
  text_state ps s g = subst (λ (judge : Judge). IsState m (run judge s ps).end) text_judges (run_state m ps s g)

  -- the moves and the answers, once every list of proposals is answered alike
  text_as_one : (table' : List ℕ) → open_table table' ≡ opened (linear m) → (s : State) → IsState m s
      → ((ps : List Proposal) → RunsAlike m (table_judge (table_after text lent)) (table_judge table') s ps)
      → (ps : List Proposal) → RunsAsOne m (table_after text lent) table' s ps
  text_as_one table' opens' s g alike ps = record {
    opens = text_opens text m lent reads;
    opens_merged = opens';
    alike = alike ps;
    answered = run_length (table_judge (table_after text lent)) ps s;
    by_rules = λ before p after e given x later q l.
        let whole = ap (λ (qs : List Proposal). (run (table_judge (table_after text lent)) s qs).answers) (sym e) ∙ q in
        subst (ByRules m _ p) (answer_is (table_judge (table_after text lent)) before p after s given x later whole l) (text_by_rules _ p);
    moves = λ before after e. moves_alike m text_lawful _ _ (text_state before s g) (alike before).end;
  }

-- A text that the reader accepts, a table lent for it, the text that the merger gives for that table, and a table lent for this
-- text: from every state, in phase 0 or 1, every list of proposals runs as one over the two tables.
pub demand_3 : (text : Bytes) (m : Model) (lent : List ℕ) → read_answer text (length lent) ≡ accepted m
    → (lent' : List ℕ) → table_words ≤ length lent'
    → (buffer : ℕ) (text' : Bytes) (edges : ℕ) → merge_answer (table_after text lent) buffer ≡ merged text' edges
    → (s : State) → IsState m s
    → (ps : List Proposal) → RunsAsOne m (table_after text lent) (table_after text' lent') s ps
demand_3 text m lent reads lent' room buffer text' edges merges s g =
    text_as_one text m lent reads (table_after text' lent') (merged_opens text m lent reads lent' room buffer text' edges merges) s g
    (λ ps. runs_alike_texts text m lent reads lent' room ps s g buffer text' edges merges)

-- the same of the merged text as the program prints it
pub demand_3_program : (text : Bytes) (m : Model) (lent : List ℕ) → read_answer text (length lent) ≡ accepted m
    → (lent' : List ℕ) → table_words ≤ length lent'
    → merge_fault m ≡ none
    → (s : State) → IsState m s
    → (ps : List Proposal) → RunsAsOne m (table_after text lent) (table_after (program_output text) lent') s ps
demand_3_program text m lent reads lent' room unrefused s g =
    text_as_one text m lent reads (table_after (program_output text) lent') (program_opens text m lent reads lent' room unrefused) s g
    (λ ps. runs_alike_program text m lent reads lent' room ps s g unrefused)

-- a table that opens as a model judges as it does
opened_judges : (t : List ℕ) (n : Model) → open_table t ≡ opened n → model_judge n ≡ table_judge t
opened_judges t n e =
    let given = model_given t n (opened_model t n e) in
    let parts : table_of n ++ drop table_words t ≡ t = ap (λ (l : List ℕ). l ++ drop table_words t) (sym given.1) ∙ take-append-drop table_words t in
    fun_ext λ s. fun_ext λ p. sym (table_judge_is n given.0 (drop table_words t) s p) ∙ ap (λ (l : List ℕ). table_judge l s p) parts

-- In format 3 the merged automaton owns its pointers: the same of every list in which an environment proposal may have any
-- pointers.
module _ (text : Bytes) (m : Model) (lent : List ℕ) (reads : read_answer text (length lent) ≡ accepted m) (owned : owners_format ≤ m.format)
    (table' : List ℕ) (opens' : open_table table' ≡ opened (linear m)) (judges' : model_judge (linear m) ≡ table_judge table') (s : State) (g : IsState m s) where
  free_as_one : (ps : List Free) → FreeAlike m (table_judge (table_after text lent)) (table_judge table') s ps
  free_as_one ps = subst₂ (λ (j k : Judge). FreeAlike m j k s ps) (text_judges text m lent reads) judges' (free_alike m (text_lawful text m lent reads) owned ps s g)

  owned_runs : (ps : List Free) → OwnedRuns m (table_after text lent) table' s ps
  owned_runs ps = record {
    opens = text_opens text m lent reads;
    opens_merged = opens';
    answers = (free_as_one ps).answers;
    end = (free_as_one ps).end;
    changes = λ before after e.
        let r = free_as_one before in
        subst (ChangesAlike m (free_run m (table_judge (table_after text lent)) s before).end) (sym r.end) (changes_alike m (text_lawful text m lent reads) owned _ r.state);
  }

pub demand_3_owned : (text : Bytes) (m : Model) (lent : List ℕ) → read_answer text (length lent) ≡ accepted m → owners_format ≤ m.format
    → (lent' : List ℕ) → table_words ≤ length lent'
    → (buffer : ℕ) (text' : Bytes) (edges : ℕ) → merge_answer (table_after text lent) buffer ≡ merged text' edges
    → (s : State) → IsState m s
    → (ps : List Free) → OwnedRuns m (table_after text lent) (table_after text' lent') s ps
demand_3_owned text m lent reads owned lent' room buffer text' edges merges s g =
    let opens' = merged_opens text m lent reads lent' room buffer text' edges merges in
    owned_runs text m lent reads owned (table_after text' lent') opens' (opened_judges (table_after text' lent') (linear m) opens') s g
