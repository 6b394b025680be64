-- One proposal of a run, over the words of a table, a layout and the automata's own sets.
use Rattle.model.specs.declared.Row.{Row}
use Rattle.std.specs.Prelude.{true, false, List, ℕ, ◌%◌, ◌^◌, ℤ, eqb, Result, Ok, Err}
use Rattle.table_places.specs.declared.layout.Layout.{Layout}
use Rattle.judge_rows.specs.declared.Phase.TheVariants.{Running}
use Rattle.judge_rows.specs.declared.State.{State}
use Rattle.judge_turn.specs.declared.Turn.{Turn}
use Rattle.judge_call.specs.declared.Answer.{Answer}
use Rattle.judge_call.specs.declared.Answer.TheVariants as A
use Rattle.judge_call.specs.Answers.{answer_of, answer_number}
use Rattle.judge_rows.specs.States.{state_of}
use Rattle.judge_call.specs.Calls.{environment_from, step_from}

-- Each proposal has an action, N locations and V values. In place of an action, this number is for the environment
-- judge, which does not read the locations.
abbrev pub environment_mark : ℕ
environment_mark = 4294967295

-- one proposal, from the state s that the run is in to the proposed state t
unfoldable pub judged_on : (words : List ℕ) → Layout → (own : List ℕ) → State → (action : ℕ) → List ℕ → List ℤ
    → State → Result Answer Row
judged_on words x own s action new_locations new_values t =
    elim (eqb action environment_mark) [
      | true ↦ environment_from words x s new_values t
      | false ↦ step_from words x own s action new_locations new_values t
    ]

-- the state that is proposed
unfoldable pub proposed_on : State → (action : ℕ) → List ℕ → List ℤ → State
proposed_on s action new_locations new_values =
    elim (eqb action environment_mark) [
      | true ↦ state_of Running s.locations new_values
      | false ↦ state_of Running new_locations new_values
    ]

-- only a yes moves the run
unfoldable pub moved_to : Result Answer Row → (s t : State) → State
moved_to (Ok A.Yes) s t = t
moved_to (Ok (A.Marked mark)) s t = t
moved_to (Ok A.No) s t = s
moved_to (Err r) s t = s

-- one proposal: its answer's number, and the state after it
unfoldable pub turn_on : (words : List ℕ) → Layout → (own : List ℕ) → State → (action : ℕ) → List ℕ → List ℤ → Turn
turn_on words x own s action new_locations new_values =
    let t = proposed_on s action new_locations new_values in
    let answer = judged_on words x own s action new_locations new_values t in
    record { number = answer_number (answer_of answer) % 2 ^ 32; state = moved_to answer s t }
