-- "Runs": demand 3 as one statement, RunsAsOne, about a whole list of proposals. The law demand_3 says that it holds.
use Rattle.std.specs.Prelude.{◌≡◌, Bool, true, false, ◌||◌, List, ◌∷◌, ◌++◌, ◌↔◌, ℕ, ℤ, length, drop}
use Rattle.std.proofs.Math.Option.{Option, none, some}
use Rattle.model.specs.Model.{Model}
use Rattle.model.specs.Limits.{broken}
use Rattle.model.specs.Table.{opened, open_table}
use Rattle.model.specs.Rules.{State, reached, changed, Step, Environment}
use Rattle.model.specs.Linear.{linear}
use Rattle.model.specs.Judge.{Answer, marked, yes, no, refused, has_values, row21, row22, row23, row24}
use Rattle.model.specs.Runs.{IsState, Proposal, to_step, to_environment, proposed, table_judge, run, beside, merged_run}
use Rattle.model.specs.Runs.{RunsAlike}

-- Row 24 is about an action, so about proposals to the step judge alone.
unfoldable pub lacks_action : Model → Proposal → Bool
lacks_action m (to_step a locations values) = row24 m a
lacks_action m (to_environment values) = false

-- the first of rows 21 to 24 that refuses a proposal from state s: each is asked of the state and of what is proposed
unfoldable pub first_row : Model → State → Proposal → Option ℕ
first_row m s p =
    let t = proposed s p in
    broken 21 (row21 m s || row21 m t)
    (broken 22 (row22 m s || row22 m t)
    (broken 23 (row23 m s || row23 m t)
    (broken 24 (lacks_action m p)
    none)))

-- The answer that the rows and the rules give to a proposal from state s: the first row that refuses it; otherwise yes,
-- with the step's mark, where the rules allow it, and no where they don't. (The law one_answer: they give one.)
pub data ByRules (m : Model) (s : State) : Proposal → Answer → Type 0 where
  by_row : {p : Proposal} {row : ℕ} → first_row m s p ≡ some row → ByRules m s p (refused row)
  step_yes : {a : ℕ} {locations : List ℕ} {values : List ℤ} {mark : Bool}
      → first_row m s (to_step a locations values) ≡ none
      → Step m s a (reached locations values) mark
      → ByRules m s (to_step a locations values) (marked mark)
  step_no : {a : ℕ} {locations : List ℕ} {values : List ℤ} → first_row m s (to_step a locations values) ≡ none
      → ((mark : Bool) → Step m s a (reached locations values) mark → ⊥)
      → ByRules m s (to_step a locations values) no
  environment_yes : {values : List ℤ} → first_row m s (to_environment values) ≡ none
      → Environment m s values
      → ByRules m s (to_environment values) yes
  environment_no : {values : List ℤ} → first_row m s (to_environment values) ≡ none
      → (Environment m s values → ⊥)
      → ByRules m s (to_environment values) no

-- locations and values of the sheet's shape, the values in their ranges or not
pub record IsPlace (m : Model) (t : State) : Type 0 where
  pub no_21 : row21 m t ≡ false
  pub no_22 : row22 m t ≡ false

-- of the merged automaton's values, the pointers: they stand behind the composition's variables
unfoldable pub pointers_in : Model → List ℤ → List ℤ
pointers_in m values = drop (length m.variables) values

-- The composition at state s and the merged automaton at state u can do the same.
pub record MovesAlike (m : Model) (s u : State) : Type 0 where
  -- u has the phase and the values of s, and pointers that name its locations
  pub stands : u ≡ beside s
  -- the same steps, under every action and with the same mark
  pub steps : (a : ℕ) (t : State) (mark : Bool) → IsPlace m t → Step m s a t mark ↔ Step (linear m) u a (beside t) mark
  -- the same environment steps, where the merged automaton's pointers are kept still
  pub environments : (values : List ℤ) → has_values m values ≡ true
      → Environment m s values ↔ Environment (linear m) u (values ++ pointers_in m u.values)
  -- so one can take a step to some state exactly when the other can
  pub can_step : (a : ℕ) (mark : Bool)
      → ((t : State) × IsState m t × Step m s a t mark)
      ↔ ((w : State) × IsState (linear m) w × Step (linear m) u a w mark)
  -- and an environment step likewise
  pub can_change : ((values : List ℤ) × IsState m (changed s values) × Environment m s values)
      ↔ ((values : List ℤ) × IsState (linear m) (changed u values) × (pointers_in m values ≡ pointers_in m u.values)
      × Environment (linear m) u values)

-- Demand 3: m is the model of the text, `table` and `table'` are read from it and from its merged text, and the list of
-- proposals is put to the judges from state s on.
pub record RunsAsOne (m : Model) (table table' : List ℕ) (s : State) (ps : List Proposal) : Type 0 where
  -- the tables are the composition's and the merged automaton's
  pub opens : open_table table ≡ opened m
  pub opens_merged : open_table table' ≡ opened (linear m)
  -- the merged run gets the same answers, and ends beside the composition's
  pub alike : RunsAlike m (table_judge table) (table_judge table') s ps
  -- the run has one answer for each proposal
  pub answered : length (run (table_judge table) s ps).answers ≡ length ps
  -- and its answer x to proposal p, with as many answers before it as proposals, is the one that the rows and the rules
  -- give where the run stands
  pub by_rules : (before : List Proposal) (p : Proposal) (after : List Proposal) → ps ≡ before ++ p ∷ after
      → (given : List Answer) (x : Answer) (later : List Answer)
      → (run (table_judge table) s ps).answers ≡ given ++ x ∷ later
      → length given ≡ length before
      → ByRules m (run (table_judge table) s before).end p x
  -- and at each point of the list both can do the same
  pub moves : (before after : List Proposal) → ps ≡ before ++ after
      → MovesAlike m (run (table_judge table) s before).end (merged_run m (table_judge table') (beside s) before).end
