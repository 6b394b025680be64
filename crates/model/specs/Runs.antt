-- "Runs": a list of proposals put to the judges, and beside it the same list put to the merged automaton.
use Rattle.std.specs.Prelude.{◌≡◌, Bool, true, false, not, ◌||◌, List, [], ◌∷◌, ◌++◌, map, ℕ, ℤ, pos, length, drop}
use Rattle.model.specs.Model.{Model}
use Rattle.model.specs.Rules.{Phase, start, running, State, reached, changed}
use Rattle.model.specs.Judge.{Answer, marked, yes, no, refused, has_values, row21, row22, row23, judge_step}
use Rattle.model.specs.Judge.{judge_environment, Call, step, environment, answer_to}

-- a state of the sheet: rows 21 to 23 do not hold of it
pub record IsState (m : Model) (s : State) : Type 0 where
  pub no_21 : row21 m s ≡ false
  pub no_22 : row22 m s ≡ false
  pub no_23 : row23 m s ≡ false

-- action, new locations and new values for the step judge; new values for the environment judge
pub data Proposal : Type 0 where
  to_step : ℕ → List ℕ → List ℤ → Proposal
  to_environment : List ℤ → Proposal

-- what is proposed, from state s
unfoldable pub proposed : State → Proposal → State
proposed s (to_step a locations values) = reached locations values
proposed s (to_environment values) = changed s values

-- A judge as a run meets it: the answer to a proposal made from a state. Over a model, and over a table.
abbrev pub Judge : Type 0
Judge = State → Proposal → Answer

unfoldable pub model_judge : Model → Judge
model_judge m s (to_step a locations values) = judge_step m s a locations values
model_judge m s (to_environment values) = judge_environment m s values

unfoldable pub phase_number : Phase → ℕ
phase_number start = 0
phase_number running = 1

unfoldable pub call_of : State → Proposal → Call
call_of s (to_step a locations values) = step (phase_number s.phase) s.locations s.values a locations values
call_of s (to_environment values) = environment (phase_number s.phase) s.locations s.values values

unfoldable pub table_judge : List ℕ → Judge
table_judge table s p = answer_to table (call_of s p)

-- only a yes takes the run to the proposed state
unfoldable pub goes : Answer → State → State → State
goes (marked b) s t = t
goes yes s t = t
goes no s t = s
goes (refused row) s t = s

-- a run's answers, and where it stands at the end
pub record Run (A : Type 0) : Type 0 where
  pub answers : List A
  pub end : State

unfoldable pub and_then : {A : Type 0} → A → Run A → Run A
and_then a r = record { answers = a ∷ r.answers; end = r.end }

unfoldable pub run : Judge → State → List Proposal → Run Answer
run judge s [] = record { answers = []; end = s }
run judge s (p ∷ ps) = and_then (judge s p) (run judge (goes (judge s p) s (proposed s p)) ps)

-- The state of the merged automaton that goes with a state: its one location, and a pointer behind the values for each
-- location.
unfoldable pub beside : State → State
beside s = record { phase = s.phase; locations = 0 ∷ []; values = s.values ++ map pos s.locations }

-- The proposal that goes with a proposal: pointers are added to the values. For the environment judge they are those of
-- state u, where the merged run is: whatever comes after the first V values there.
unfoldable pub translate : Model → State → Proposal → Proposal
translate m u (to_step a locations values) = to_step a (0 ∷ []) (values ++ map pos locations)
translate m u (to_environment values) = to_environment (values ++ drop (length m.variables) u.values)

-- is there one? The proposal must have the sheet's shape
unfoldable pub translates : Model → Proposal → Bool
translates m (to_step a locations values) =
    not (row21 m (reached locations values) || row22 m (reached locations values))
translates m (to_environment values) = has_values m values

-- what the merged run says beside an answer: its own answer, or nothing, because the proposal was not put to it
pub data Reply : Type 0 where
  put : Answer → Reply
  not_put : Reply

-- the merged run from state u, which only its own answers decide
unfoldable pub merged_run : Model → Judge → State → List Proposal → Run Reply
merged_run m judge u [] = record { answers = []; end = u }
merged_run m judge u (p ∷ ps) =
    elim (translates m p) [
      | true ↦
          let q = translate m u p in
          and_then (put (judge u q)) (merged_run m judge (goes (judge u q) u (proposed u q)) ps)
      | false ↦ and_then not_put (merged_run m judge u ps)
    ]

-- alike: yes, with its mark where there is one; no; refusals 23 and 24; and what is refused by 21 or 22 and not put
pub data Alike : Answer → Reply → Type 0 where
  both_marked : {b : Bool} → Alike (marked b) (put (marked b))
  both_yes : Alike yes (put yes)
  both_no : Alike no (put no)
  both_23 : Alike (refused 23) (put (refused 23))
  both_24 : Alike (refused 24) (put (refused 24))
  only_21 : Alike (refused 21) not_put
  only_22 : Alike (refused 22) not_put

pub data AllAlike : List Answer → List Reply → Type 0 where
  ended : AllAlike [] []
  then : {a : Answer} {b : Reply} {as' : List Answer} {bs : List Reply} → Alike a b → AllAlike as' bs
      → AllAlike (a ∷ as') (b ∷ bs)

-- Both runs over one list: the answers are alike, place by place, and the merged run ends at the state that goes with
-- where the run ends: phase, values, and pointers for its locations.
pub record RunsAlike (m : Model) (judge merged : Judge) (s : State) (ps : List Proposal) : Type 0 where
  pub answers : AllAlike (run judge s ps).answers (merged_run m merged (beside s) ps).answers
  pub end : (merged_run m merged (beside s) ps).end ≡ beside (run judge s ps).end
