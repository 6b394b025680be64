-- "Runs" in format 3 (request (k)): the merged automaton owns its pointers, so that nobody has to keep them still. An
-- environment proposal to the merged automaton may have any pointers. The composition is asked beside it for the same
-- change of its values, at the locations that these pointers name. The law demand_3_owned says that both runs are one.
use Rattle.std.specs.Prelude.{◌≡◌, Bool, true, false, not, cond, ◌||◌, List, [], ◌∷◌, ◌++◌, map, ◌↔◌, ℕ, ℤ, pos, length}
use Rattle.model.specs.Basic.{same}
use Rattle.model.specs.Model.{Model}
use Rattle.model.specs.Table.{opened, open_table}
use Rattle.model.specs.Rules.{State, reached, changed, Environment}
use Rattle.model.specs.Linear.{linear}
use Rattle.model.specs.Judge.{Answer, no, refused, has_values, row21, row22, row23}
use Rattle.model.specs.Runs.{IsState, Proposal, to_step, to_environment, proposed, Judge, table_judge, goes, Run}
use Rattle.model.specs.Runs.{and_then}
use Rattle.model.specs.Runs.{beside, Reply, put, not_put, AllAlike}
use Rattle.theorem_runs.specs.Demand.{pointers_in}

-- to which judge a proposal is made: to the step judge under an action, or to the environment judge
pub data Asked : Type 0 where
  step : (action : ℕ) → Asked
  environment : Asked

-- new locations and new values, whichever judge is asked
pub record Free : Type 0 where
  pub asked : Asked
  pub locations : List ℕ
  pub values : List ℤ

abbrev pub aim : Free → State
aim p = reached p.locations p.values

-- The composition's answer from state s. Its environment judge is not asked for locations, since they stay: where a
-- proposal has them as they are, the answer is the judge's; where it has others, it is no, if rows 21 to 23 let them
-- pass.
unfoldable pub elsewhere : Model → State → Answer
elsewhere m t = cond (row21 m t) (refused 21) (cond (row22 m t) (refused 22) (cond (row23 m t) (refused 23) no))

unfoldable pub answer_by : Asked → Model → Judge → State → List ℕ → List ℤ → Answer
answer_by (step a) m judge s locations values = judge s (to_step a locations values)
answer_by environment m judge s locations values =
    elim (same locations s.locations) [
      | true ↦ judge s (to_environment values)
      | false ↦ elsewhere m (reached locations values)
    ]

unfoldable pub free_answer : Model → Judge → State → Free → Answer
free_answer m judge s p = answer_by p.asked m judge s p.locations p.values

-- the proposal to the merged automaton: the locations are pointers behind the values
unfoldable pub merged_proposal : Asked → List ℤ → Proposal
merged_proposal (step a) values = to_step a (0 ∷ []) values
merged_proposal environment values = to_environment values

unfoldable pub freely : Free → Proposal
freely p = merged_proposal p.asked (p.values ++ map pos p.locations)

-- is there one? The proposal must have the sheet's shape
unfoldable pub is_shaped : Model → Free → Bool
is_shaped m p = not (row21 m (aim p) || row22 m (aim p))

-- both runs, each by its own answers
unfoldable pub free_run : Model → Judge → State → List Free → Run Answer
free_run m judge s [] = record { answers = []; end = s }
free_run m judge s (p ∷ ps) =
    and_then (free_answer m judge s p) (free_run m judge (goes (free_answer m judge s p) s (aim p)) ps)

unfoldable pub free_merged_run : Model → Judge → State → List Free → Run Reply
free_merged_run m judge u [] = record { answers = []; end = u }
free_merged_run m judge u (p ∷ ps) =
    elim (is_shaped m p) [
      | true ↦
          let q = freely p in
          and_then (put (judge u q)) (free_merged_run m judge (goes (judge u q) u (proposed u q)) ps)
      | false ↦ and_then not_put (free_merged_run m judge u ps)
    ]

-- The composition at state s and the merged automaton at state u can change by the environment in the same way.
pub record ChangesAlike (m : Model) (s u : State) : Type 0 where
  -- to new values and any pointers: exactly if the pointers are kept and the composition can change to these values
  pub environments : (values pointers : List ℤ) → has_values m values ≡ true → length pointers ≡ length m.automata
      → Environment (linear m) u (values ++ pointers)
      ↔ ((pointers ≡ pointers_in m u.values) × Environment m s values)
  -- so the one can change exactly when the other can
  pub can_change : ((values : List ℤ) × IsState m (changed s values) × Environment m s values)
      ↔ ((values : List ℤ) × IsState (linear m) (changed u values) × Environment (linear m) u values)

-- Demand 3 with any pointers: m is the model of the text, `table` and `table'` are read from it and from its merged
-- text.
pub record OwnedRuns (m : Model) (table table' : List ℕ) (s : State) (ps : List Free) : Type 0 where
  pub opens : open_table table ≡ opened m
  pub opens_merged : open_table table' ≡ opened (linear m)
  -- the answers are alike, place by place, and the merged run ends beside the composition's
  pub answers : AllAlike (free_run m (table_judge table) s ps).answers
      (free_merged_run m (table_judge table') (beside s) ps).answers
  pub end : (free_merged_run m (table_judge table') (beside s) ps).end
      ≡ beside (free_run m (table_judge table) s ps).end
  -- and at each point of the list both can change in the same way
  pub changes : (before after : List Free) → ps ≡ before ++ after
      → ChangesAlike m (free_run m (table_judge table) s before).end
      (free_merged_run m (table_judge table') (beside s) before).end
