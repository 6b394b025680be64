-- The judges over a table of a model: it opens as the model, so they answer as they do over the model, and say yes by the rules.
use Prim.Native.Nat.{ℕ}
use mathlib.Core.Path.{◌≡◌, refl, sym, ◌∙◌}
use mathlib.Core.Bool.{Bool, true, false}
use mathlib.Core.List.{List, ◌++◌}
use mathlib.Core.Option.{Option, none, some}
use mathlib.Core.Logic.{◌↔◌}
use native.Mathlib.Omega.{arith}
use borrow.Author.Tests.{le-ltb}
use lib.IntN.{ℤ}
use lib.ListN.{length, length-append}
use lib.Dec.{ltb}
use Rattle.model.specs.Bounds.{table_words}
use Rattle.model.specs.Model.{Model}
use Rattle.model.specs.Limits.{limits}
use Rattle.model.specs.Table.{table_of, row18, opened, open_table}
use Rattle.model.specs.Rules.{Phase, start, running, State, reached, Step, Environment}
use Rattle.model.specs.Judge.{Answer, marked, yes, refused, phase_of, judge_step, judge_environment, judge_at, step_answer, environment_answer, answer_to, StepPasses, EnvironmentPasses}
use Rattle.model.specs.Runs.{Proposal, to_step, to_environment, model_judge, phase_number, call_of, table_judge}
use Rattle.model.proofs.LimitsLaws.{lawful_is}
use Rattle.model.proofs.TableLaws.{table_length, model_back}
use Rattle.model.proofs.ByRules.{refused_marked, refused_yes, step_by_rules, environment_by_rules}

-- a state, by its parts
abbrev pub state_at : Phase → List ℕ → List ℤ → State
state_at p locations values = record { phase = p; locations = locations; values = values }

-- the number of a phase names it
phase_back : (p : Phase) → phase_of (phase_number p) ≡ some p
unfolding phase_of phase_number
phase_back start = refl
phase_back running = refl

module _ (m : Model) (limited : limits m ≡ true) (rest : List ℕ) where
  -- a model's table opens as the model, whatever follows it
  pub table_opens : open_table (table_of m ++ rest) ≡ opened m
  unfolding open_table row18
  table_opens =
      let l = length-append (table_of m) rest in
      let n = table_length m limited in
      let e : ltb (length (table_of m ++ rest)) table_words ≡ false = le-ltb (length (table_of m ++ rest)) table_words (omega arith) in
      rw (e, open_table, model_back m limited rest)

  module _ (phase : ℕ) (locations : List ℕ) (values : List ℤ) where
    -- a call in a phase is the judge's; without a phase row 20 refuses it
    in_phase : (judge : Model → State → Answer) (p : Phase) → phase_of phase ≡ some p → judge_at (table_of m ++ rest) phase locations values judge ≡ judge m (state_at p locations values)
    unfolding judge_at
    in_phase judge p e = rw (table_opens, judge_at, e)

    no_phase : (judge : Model → State → Answer) → phase_of phase ≡ none → judge_at (table_of m ++ rest) phase locations values judge ≡ refused 20
    unfolding judge_at
    no_phase judge e = rw (table_opens, judge_at, e)

    -- so an answer other than that refusal is the judge's, in the phase that the call names
    in_some_phase : (judge : Model → State → Answer) (P : Phase → Type 0) (x : Answer) → (refused 20 ≡ x → ⊥) → ((p : Phase) → (judge m (state_at p locations values) ≡ x) ↔ P p)
        → (judge_at (table_of m ++ rest) phase locations values judge ≡ x) ↔ ((p : Phase) × (phase_of phase ≡ some p) × P p)
    in_some_phase judge P x other rules = (there (phase_of phase) refl, λ h. in_phase judge h.0 h.1 ∙ (rules h.0).1 h.2)
      where
        there : (o : Option Phase) → phase_of phase ≡ o → judge_at (table_of m ++ rest) phase locations values judge ≡ x → (p : Phase) × (phase_of phase ≡ some p) × P p
        there none e h = absurd (other (sym (no_phase judge e) ∙ h))
        there (some p) e h = (p, e, (rules p).0 (sym (in_phase judge p e) ∙ h))

    -- The step judge says yes with mark b exactly when the phase is 0 or 1, no other row refuses and the rules allow the step with
    -- that mark.
    pub step_answer_by_rules : (a : ℕ) (locations' : List ℕ) (values' : List ℤ) (b : Bool)
        → let t = reached locations' values' in
        (step_answer (table_of m ++ rest) phase locations values a locations' values' ≡ marked b)
        ↔ ((p : Phase) × (phase_of phase ≡ some p) × (StepPasses m (state_at p locations values) a t × Step m (state_at p locations values) a t b))
    unfolding step_answer
    step_answer_by_rules a locations' values' b =
        in_some_phase (λ n u. judge_step n u a locations' values') _ (marked b) (refused_marked 20) (λ p. step_by_rules m ((lawful_is m).0 limited) (state_at p locations values) a locations' values' b)

    -- the environment judge says yes exactly when the phase is 0 or 1, no other row refuses and the rules allow the change
    pub environment_answer_by_rules : (values' : List ℤ)
        → (environment_answer (table_of m ++ rest) phase locations values values' ≡ yes)
        ↔ ((p : Phase) × (phase_of phase ≡ some p) × (EnvironmentPasses m (state_at p locations values) values' × Environment m (state_at p locations values) values'))
    unfolding environment_answer
    environment_answer_by_rules values' =
        in_some_phase (λ n u. judge_environment n u values') _ yes (refused_yes 20) (λ p. environment_by_rules m ((lawful_is m).0 limited) (state_at p locations values) values')

  -- from a state, the judges answer over the table as they do over the model
  pub table_judge_is : (s : State) (p : Proposal) → table_judge (table_of m ++ rest) s p ≡ model_judge m s p
  unfolding table_judge answer_to call_of model_judge step_answer environment_answer
  table_judge_is s (to_step a locations values) = in_phase _ s.locations s.values (λ n u. judge_step n u a locations values) s.phase (phase_back s.phase)
  table_judge_is s (to_environment values) = in_phase _ s.locations s.values (λ n u. judge_environment n u values) s.phase (phase_back s.phase)
