-- A run over the words of a table, a layout and the automata's own sets, as the code does it. On a good table and what
-- is found in it, it is the definitions': the law run_exact.
use Rattle.std.specs.Prelude.{◌≡◌, true, false, List, [], ◌∷◌, ℕ, suc, ℤ, length, take, drop, set, leb, Result, Ok, Err}
use Rattle.table_places.specs.declared.layout.Layout.{Layout}
use Rattle.table_places.specs.Layout.{layout_of, automata_of, variables_of}
use Rattle.judge_rows.specs.declared.State.{State}
use Rattle.judge_rows.specs.declared.Phase.{Phase}
use Rattle.judge_runs.specs.declared.RunError.{RunError}
use Rattle.judge_runs.specs.declared.RunError.TheVariants.{Refused, Uneven, AnswersShort, EndShort}
use Rattle.judge_rows.specs.States.{state_of}
use Rattle.judge_call.specs.Calls.{own_of}
use Rattle.judge_rows.specs.Checks.{begun_on}
use Rattle.judge_turn.specs.Turns.{turn_on}
use Rattle.judge_lists.specs.Lists.{lists_fit, end_fits, in_front}

-- where a run is, and what its answers are so far
pub record Gone : Type 0 where
  pub state : State
  pub answers : List ℕ

-- from state s on, with answer k the next one
unfoldable pub go_on : (words : List ℕ) → Layout → (own : List ℕ) (n v : ℕ) → State → (answers : List ℕ) (k : ℕ)
    → (actions locations : List ℕ) (values : List ℤ) → Gone
go_on words x own n v s answers k [] locations values = record { state = s; answers = answers }
go_on words x own n v s answers k (action ∷ actions) locations values =
    let turn = turn_on words x own s action (take n locations) (take v values) in
    go_on words x own n v turn.state (set answers k turn.number) (suc k) actions (drop n locations) (drop v values)

-- what a list leaves: its answer, and the memory lent for the answers and for the state at the end
pub record Left : Type 0 where
  pub ran : Result Phase RunError
  pub answers : List ℕ
  pub locations : List ℕ
  pub values : List ℤ

module _ (words : List ℕ) (x : Layout) (own : List ℕ) (s : State) (actions ls : List ℕ) (vs : List ℤ)
    (answers locations : List ℕ) (values : List ℤ) where
  -- a fault: the memory as it was
  abbrev pub untouched : Result Phase RunError → Left
  untouched r = record { ran = r; answers = answers; locations = locations; values = values }

  -- the run
  abbrev pub gone : Gone
  gone = go_on words x own (automata_of x) (variables_of x) s answers 0 actions ls vs

  unfoldable pub ran_on : Left
  ran_on =
      record {
        ran = Ok gone.state.phase;
        answers = gone.answers;
        locations = in_front (take (automata_of x) gone.state.locations) locations;
        values = in_front (take (variables_of x) gone.state.values) values;
      }

  -- from state s: the list's own faults, or its run
  unfoldable pub listed_on : Left
  listed_on =
      elim (lists_fit x (length actions) (length ls) (length vs)) [
        | false ↦ untouched (Err Uneven)
        | true ↦
            elim (leb (length actions) (length answers)) [
              | false ↦ untouched (Err AnswersShort)
              | true ↦
                  elim (end_fits x (length locations) (length values)) [
                    | false ↦ untouched (Err EndShort)
                    | true ↦ ran_on
                  ]
            ]
      ]

-- the whole call over a good table
unfoldable pub over_on : (words : List ℕ) (phase : ℕ) (l : List ℕ) (v : List ℤ) (actions ls : List ℕ) (vs : List ℤ)
    → (answers locations : List ℕ) (values : List ℤ) → Left
over_on words phase l v actions ls vs answers locations values =
    let x = layout_of words in
    elim (begun_on words x l v phase) [
      | Err r ↦ record { ran = Err (Refused r); answers = answers; locations = locations; values = values }
      | Ok q ↦ listed_on words x (own_of words) (state_of q l v) actions ls vs answers locations values
    ]

-- the same of what a call leaves
pub record Leaves (l : Left) (r : Result Phase RunError) (answers locations : List ℕ) (values : List ℤ) : Type 0 where
  pub is : record { ran = r; answers = answers; locations = locations; values = values } ≡ l
