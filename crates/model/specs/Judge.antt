-- The judges' answers: "Refused", rows 18 to 24 in their order, then "Steps" as tests.
use Rattle.std.specs.Prelude.{◌≡◌, Bool, true, false, not, cond, ◌&&◌, ◌||◌, List, ℕ, ℤ, pos, length, get_or, eqb, ltb}
use Rattle.std.proofs.Math.Option.{Option, none, some}
use Rattle.model.specs.Basic.{eq_z, between, each, every, exists, lacks}
use Rattle.model.specs.Predicate.{Range, range, holds}
use Rattle.model.specs.Composition.{starts}
use Rattle.model.specs.Model.{Model, automaton, location, owner_of, in_set}
use Rattle.model.specs.Table.{unopened, opened, open_table}
use Rattle.model.specs.Rules.{Phase, start, running, State, reached, at, val, holds_in, Taker, mentioned, changed}
use Rattle.model.specs.Moves.{moves}

-- the step judge says `marked` (yes, with its mark), `no` or `refused`; the environment judge `yes`, `no` or `refused`
pub data Answer : Type 0 where
  marked : Bool → Answer
  yes no : Answer
  refused : ℕ → Answer

-- The rows' tests are true where the row refuses.

-- Row 20: what the phases' numbers are.
unfoldable pub phase_of : ℕ → Option Phase
phase_of p = elim (eqb p 0) [ true ↦ some start | false ↦ elim (eqb p 1) [ true ↦ some running | false ↦ none ] ]

-- Row 21: one location for each automaton, one value for each variable?
unfoldable pub has_values : Model → List ℤ → Bool
has_values m values = eqb (length values) (length m.variables)

unfoldable pub row21 : Model → State → Bool
row21 m s = not (eqb (length s.locations) (length m.automata) && has_values m s.values)

-- Row 22: does each automaton have the location?
unfoldable pub row22 : Model → State → Bool
row22 m s = not (each (length m.automata) (λ k. ltb (at s k) (length (automaton m k).locations)))

-- Row 23: does each variable's range have the value?
unfoldable pub range_of : Model → ℕ → Range
range_of m k = get_or m.variables k (range (pos 0) (pos 0))

unfoldable pub row23 : Model → State → Bool
row23 m s = not (each (length m.variables) (λ k. between (range_of m k).low (range_of m k).high (val s k)))

-- Row 24: does the model have the action?
unfoldable pub row24 : Model → ℕ → Bool
row24 m a = ltb m.actions a

-- What holds of every automaton, whether it takes an edge or is still (rules 1 and 2): at its old location init (in
-- phase 0) and inv of the old values, at its new location inv of the new values.
unfoldable pub inits : Model → State → Bool
inits m s = each (length m.automata) (λ k. holds_in s (location m k (at s k)).init)

unfoldable pub invs : Model → State → Bool
invs m s = each (length m.automata) (λ k. holds_in s (location m k (at s k)).inv)

-- and of the composition, whoever takes an edge: every P of an `ini`, in phase 0
unfoldable pub starts_hold : Model → State → Bool
starts_hold m s = every (holds_in s) (starts m.tree)

unfoldable pub initial : Phase → Bool → Bool
initial start b = b
initial running b = true

unfoldable pub settled : Model → State → State → Bool
settled m s t = initial s.phase (inits m s && starts_hold m s) && (invs m s && invs m t)

-- What holds of the takers: their updates hold, and their edges lead from the old locations to the new; every other
-- automaton keeps its location, and every variable that none of them mentions its value.
unfoldable pub is_taker : ℕ → List Taker → Bool
is_taker k takers = exists (λ x. eqb k x.automaton) takers

unfoldable pub updated : State → State → Taker → Bool
updated s t x = holds s.values t.values x.edge.update

unfoldable pub led : State → State → Taker → Bool
led s t x = eqb (at s x.automaton) x.edge.from && eqb (at t x.automaton) x.edge.to

unfoldable pub kept : Model → State → State → List Taker → Bool
kept m s t takers = each (length m.automata) (λ k. is_taker k takers || eqb (at s k) (at t k))

unfoldable pub framed : Model → State → State → List Taker → Bool
framed m s t takers = each (length m.variables) (λ k. mentioned k takers || eq_z (val s k) (val t k))

unfoldable pub fits : Model → State → State → List Taker → Bool
fits m s t takers = every (updated s t) takers && (every (led s t) takers && (kept m s t takers && framed m s t takers))

unfoldable pub step_holds : Model → State → ℕ → State → Bool
step_holds m s a t = settled m s t && exists (fits m s t) (moves m a m.tree)

-- What holds of the variables where the environment moves: each that has an owner keeps its value.
unfoldable pub owned_keep : Model → State → State → Bool
owned_keep m s t = each (length m.variables) (λ k. lacks (owner_of m k) || eq_z (val s k) (val t k))

unfoldable pub environment_holds : Model → State → State → Bool
environment_holds m s t = settled m s t && owned_keep m s t

-- Rows 21 to 24, then the rules. (The laws step_by_rules and environment_by_rules.)
unfoldable pub judge_to : Model → State → ℕ → State → Answer
judge_to m s a t =
    cond (row21 m s || row21 m t) (refused 21)
    (cond (row22 m s || row22 m t) (refused 22)
    (cond (row23 m s || row23 m t) (refused 23)
    (cond (row24 m a) (refused 24)
    (cond (step_holds m s a t) (marked (in_set m a m.tree)) no))))

abbrev pub judge_step : Model → State → ℕ → List ℕ → List ℤ → Answer
judge_step m s a locations values = judge_to m s a (reached locations values)

unfoldable pub judge_environment : Model → State → List ℤ → Answer
judge_environment m s values =
    cond (row21 m s || row21 m (changed s values)) (refused 21)
    (cond (row22 m s) (refused 22)
    (cond (row23 m s || row23 m (changed s values)) (refused 23)
    (cond (environment_holds m s (changed s values)) yes no)))

-- The two calls over a table: rows 18, 19 and 20 come first.
unfoldable pub judge_at : List ℕ → (phase : ℕ) → List ℕ → List ℤ → (Model → State → Answer) → Answer
judge_at table phase locations values judge =
    elim (open_table table) [
      | unopened row ↦ refused row
      | opened m ↦
          elim (phase_of phase) [
            | none ↦ refused 20
            | some p ↦ judge m (record { phase = p; locations = locations; values = values })
          ]
    ]

unfoldable pub step_answer : List ℕ → (phase : ℕ) → List ℕ → List ℤ → (action : ℕ) → List ℕ → List ℤ → Answer
step_answer table phase locations values action new_locations new_values =
    judge_at table phase locations values (λ m s. judge_step m s action new_locations new_values)

unfoldable pub environment_answer : List ℕ → (phase : ℕ) → List ℕ → List ℤ → List ℤ → Answer
environment_answer table phase locations values new_values =
    judge_at table phase locations values (λ m s. judge_environment m s new_values)

-- a call of either judge, as it is made
pub data Call : Type 0 where
  step : (phase : ℕ) → List ℕ → List ℤ → (action : ℕ) → List ℕ → List ℤ → Call
  environment : (phase : ℕ) → List ℕ → List ℤ → List ℤ → Call

unfoldable pub answer_to : List ℕ → Call → Answer
answer_to table (step phase locations values action new_locations new_values) =
    step_answer table phase locations values action new_locations new_values
answer_to table (environment phase locations values new_values) =
    environment_answer table phase locations values new_values

-- no row refuses the call
pub record StepPasses (m : Model) (s : State) (a : ℕ) (t : State) : Type 0 where
  pub no_21 : (row21 m s || row21 m t) ≡ false
  pub no_22 : (row22 m s || row22 m t) ≡ false
  pub no_23 : (row23 m s || row23 m t) ≡ false
  pub no_24 : row24 m a ≡ false

pub record EnvironmentPasses (m : Model) (s : State) (values : List ℤ) : Type 0 where
  pub no_21 : (row21 m s || row21 m (changed s values)) ≡ false
  pub no_22 : row22 m s ≡ false
  pub no_23 : (row23 m s || row23 m (changed s values)) ≡ false
