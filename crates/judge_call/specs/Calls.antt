-- The rows of a call, in their order, and then the rules. `own` is the automata's own sets.
use Rattle.model.specs.Row.{row}
use Rattle.std.specs.Prelude.{Result, Ok, Err, ⊤}
use Rattle.model.specs.declared.Row.{Row}
use Rattle.std.specs.Prelude.{ℕ, true, false, List, ℤ}
use Rattle.model.specs.Table.{open_table}
use Rattle.table_places.specs.declared.layout.Layout.{Layout}
use Rattle.table_places.specs.Layout.{layout_of}
use Rattle.table_places.specs.Own.{own_sets}
use Rattle.table_check.specs.Check.{answered}
use Rattle.judge_rows.specs.declared.Phase.{Phase}
use Rattle.judge_rows.specs.declared.Phase.TheVariants.{Running}
use Rattle.judge_rows.specs.declared.State.{State}
use Rattle.judge_call.specs.declared.Answer.{Answer}
use Rattle.judge_call.specs.declared.Answer.TheVariants.{Yes, Marked, No}
use Rattle.judge_rows.specs.States.{state_of}
use Rattle.judge_rows.specs.RowTests.{action_known}
use Rattle.judge_rows.specs.Checks.{state_checked, values_checked, admitted_on}
use Rattle.judge_settled.specs.Settled.{settled_at}
use Rattle.judge_call.specs.Taken.{taken_at, mark_at}
use Rattle.judge_call.specs.Owners.{owned_keep_at}

-- the refusal, or what the rules answer in the phase
unfoldable pub then_rules : Result Phase Row → (Phase → Result Answer Row) → Result Answer Row
then_rules (Err r) rules = Err r
then_rules (Ok phase) rules = rules phase

-- the refusal by a check, or the answer behind it
unfoldable pub then_answer : Result ⊤ Row → Result Answer Row → Result Answer Row
then_answer (Err r) answer = Err r
then_answer (Ok _) answer = answer

module _ (words : List ℕ) (x : Layout) where
  -- the environment judge, from state s to state t: every automaton is still, and what one owns keeps its value
  unfoldable pub environment_by : (s t : State) → Result Answer Row
  environment_by s t =
      elim (settled_at words x s t) [
        | false ↦ Ok No
        | true ↦ elim (owned_keep_at words x s t) [ true ↦ Ok Yes | false ↦ Ok No ]
      ]

  abbrev pub environment_in : (locations : List ℕ) (values new_values : List ℤ) → Phase → Result Answer Row
  environment_in locations values new_values phase =
      environment_by (state_of phase locations values) (state_of Running locations new_values)

  unfoldable pub environment_on : (phase : ℕ) (locations : List ℕ) (values new_values : List ℤ) → Result Answer Row
  environment_on phase locations values new_values =
      then_rules (admitted_on words x phase locations values locations new_values)
      (environment_in locations values new_values)

  -- where s has passed the rows
  unfoldable pub environment_from : (s : State) (new_values : List ℤ) (t : State) → Result Answer Row
  environment_from s new_values t = then_answer (values_checked words x new_values) (environment_by s t)

  -- the step judge: row 24; then what holds of every automaton and of the composition; then whether some automata can
  -- take the action, and its mark
  module _ (own : List ℕ) where
    unfoldable pub step_by : (s : State) (action : ℕ) (t : State) → Result Answer Row
    step_by s action t =
        elim (action_known x action) [
          | false ↦ Err (row 24)
          | true ↦
              elim (settled_at words x s t) [
                | false ↦ Ok No
                | true ↦
                    elim (taken_at words x own action s t) [
                      | false ↦ Ok No
                      | true ↦ Ok (Marked (mark_at words x own action))
                    ]
              ]
        ]

    abbrev pub step_in : (locations : List ℕ) (values : List ℤ) (action : ℕ) (new_locations : List ℕ)
        → (new_values : List ℤ) → Phase → Result Answer Row
    step_in locations values action new_locations new_values phase =
        step_by (state_of phase locations values) action (state_of Running new_locations new_values)

    unfoldable pub step_on : (phase : ℕ) (locations : List ℕ) (values : List ℤ) (action : ℕ) (new_locations : List ℕ)
        → (new_values : List ℤ) → Result Answer Row
    step_on phase locations values action new_locations new_values =
        then_rules (admitted_on words x phase locations values new_locations new_values)
        (step_in locations values action new_locations new_values)

    unfoldable pub step_from : (s : State) (action : ℕ) (new_locations : List ℕ) (new_values : List ℤ) (t : State)
        → Result Answer Row
    step_from s action new_locations new_values t =
        then_answer (state_checked words x new_locations new_values) (step_by s action t)

-- over any table: the check, and then by its layout
abbrev pub own_of : (table : List ℕ) → List ℕ
own_of table = own_sets table (layout_of table).sets

unfoldable pub environment_at : (table : List ℕ) (phase : ℕ) (locations : List ℕ) (values new_values : List ℤ)
    → Result Answer Row
environment_at table phase locations values new_values =
    then_answer (answered (open_table table))
    (environment_on table (layout_of table) phase locations values new_values)

unfoldable pub step_at : (table : List ℕ) (phase : ℕ) (locations : List ℕ) (values : List ℤ) (action : ℕ)
    → (new_locations : List ℕ) (new_values : List ℤ) → Result Answer Row
step_at table phase locations values action new_locations new_values =
    then_answer (answered (open_table table))
    (step_on table (layout_of table) (own_of table) phase locations values action new_locations new_values)
