-- A list of proposals put to the judges over one table, as a caller gives it: three lists, and room for the answers and
-- for the state at the end.
use Rattle.std.specs.Prelude.{Bool, true, false, not, cond, ◌&&◌, List, [], ◌∷◌, map, ℕ, ◌*◌, ℤ, length, take, drop}
use Rattle.std.specs.Prelude.{eqb, ltb, leb, Result, Ok, Err}
use Rattle.std.proofs.Math.Option.{none, some}
use Rattle.model.specs.Model.{Model}
use Rattle.model.specs.Table.{unopened, opened, open_table}
use Rattle.model.specs.Rules.{State}
use Rattle.model.specs.Judge.{Answer, phase_of, row21, row22, row23}
use Rattle.model.specs.Runs.{Proposal, to_step, to_environment, table_judge, Run, run}
use Rattle.model.specs.Row.{row}
use Rattle.judge_rows.specs.declared.Phase.{Phase}
use Rattle.judge_runs.specs.declared.RunError.{RunError}
use Rattle.judge_runs.specs.declared.RunError.TheVariants.{Refused, Uneven, AnswersShort, EndShort}
use Rattle.judge_rows.specs.Phases.{phase_for}
use Rattle.judge_call.specs.Answers.{answer_number}
use Rattle.judge_turn.specs.Turns.{environment_mark}
use Rattle.judge_lists.specs.Lists.{in_front}

-- one proposal; and all of them, with N locations and V values each
unfoldable pub proposal_of : (action : ℕ) → List ℕ → List ℤ → Proposal
proposal_of action locations values =
    elim (eqb action environment_mark) [
      | true ↦ to_environment values
      | false ↦ to_step action locations values
    ]

unfoldable pub proposals_of : (n v : ℕ) (actions locations : List ℕ) (values : List ℤ) → List Proposal
proposals_of n v [] locations values = []
proposals_of n v (action ∷ actions) locations values =
    proposal_of action (take n locations) (take v values) ∷ proposals_of n v actions (drop n locations) (drop v values)

-- What a list is answered with as a whole: a row of the paper, of the table, the phase or the state that the run starts
-- from; a fault of the list itself, which no row speaks of; or its run.
pub data RunAnswer : Type 0 where
  not_run : (row : ℕ) → RunAnswer
  -- not N locations and V values for each action; fewer places for answers than actions; fewer than N places for the
  -- locations at the end, or than V for the values
  uneven answers_short end_short : RunAnswer
  ran : Run Answer → RunAnswer

-- the tests are true where the fault is there
unfoldable pub is_uneven : Model → (actions new_locations : List ℕ) (new_values : List ℤ) → Bool
is_uneven m actions new_locations new_values =
    not
    (eqb (length new_locations) (length m.automata * length actions) &&
    eqb (length new_values) (length m.variables * length actions))

unfoldable pub lacks_end : Model → (end_locations end_values : ℕ) → Bool
lacks_end m end_locations end_values =
    not (leb (length m.automata) end_locations && leb (length m.variables) end_values)

-- from state s: rows 21 to 23 of it; then the list's own faults in this order; then the run
unfoldable pub run_from : (table : List ℕ) → Model → State → (actions new_locations : List ℕ) (new_values : List ℤ)
    → (answers end_locations end_values : ℕ) → RunAnswer
run_from table m s actions new_locations new_values answers end_locations end_values =
    cond (row21 m s) (not_run 21)
    (cond (row22 m s) (not_run 22)
    (cond (row23 m s) (not_run 23)
    (cond (is_uneven m actions new_locations new_values) uneven
    (cond (ltb answers (length actions)) answers_short
    (cond (lacks_end m end_locations end_values) end_short
    (ran
    (run (table_judge table) s
    (proposals_of (length m.automata) (length m.variables) actions new_locations new_values))))))))

-- the whole call: rows 18, 19 and 20 come first. The last three numbers are the lengths of the lent memory.
unfoldable pub run_answer : (table : List ℕ) (phase : ℕ) (locations : List ℕ) (values : List ℤ)
    → (actions new_locations : List ℕ) (new_values : List ℤ) (answers end_locations end_values : ℕ) → RunAnswer
run_answer table phase locations values actions new_locations new_values answers end_locations end_values =
    elim (open_table table) [
      | unopened row ↦ not_run row
      | opened m ↦
          elim (phase_of phase) [
            | none ↦ not_run 20
            | some p ↦
                run_from table m (record { phase = p; locations = locations; values = values }) actions
                new_locations new_values answers end_locations end_values
          ]
    ]

-- what the code gives back
unfoldable pub ran_of : RunAnswer → Result Phase RunError
ran_of (not_run n) = Err (Refused (row n))
ran_of uneven = Err Uneven
ran_of answers_short = Err AnswersShort
ran_of end_short = Err EndShort
ran_of (ran r) = Ok (phase_for r.end.phase)

-- Lent memory afterwards: what a run gives stands at its front; a list that is not run leaves it as it was.
unfoldable pub lent_after : {A : Type 0} → (Run Answer → List A) → RunAnswer → List A → List A
lent_after given (ran r) old = in_front (given r) old
lent_after given (not_run row) old = old
lent_after given uneven old = old
lent_after given answers_short old = old
lent_after given end_short old = old

-- the answers' numbers; the locations and the values at the end
unfoldable pub answers_after : RunAnswer → List ℕ → List ℕ
answers_after = lent_after (λ r. map answer_number r.answers)

unfoldable pub locations_after : RunAnswer → List ℕ → List ℕ
locations_after = lent_after (λ r. r.end.locations)

unfoldable pub values_after : RunAnswer → List ℤ → List ℤ
values_after = lent_after (λ r. r.end.values)
