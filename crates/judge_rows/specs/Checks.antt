-- Rows 20 to 23 of a call, in their order.
use Rattle.std.specs.Prelude.{Result, Ok, Err, ⊤}
use Rattle.model.specs.declared.Row.{Row}
use Rattle.model.specs.Row.{row}
use Rattle.std.specs.Prelude.{true, false, not, ◌||◌, List, ℕ, ℤ, length, eqb}
use Rattle.table_places.specs.declared.layout.Layout.{Layout}
use Rattle.judge_rows.specs.declared.Phase.{Phase}
use Rattle.judge_rows.specs.RowTests.{phase_read, lengths_fit, locations_known, values_known}

module _ (words : List ℕ) (x : Layout) where
  -- rows 21 to 23 of one state
  unfoldable pub state_checked : (locations : List ℕ) (values : List ℤ) → Result ⊤ Row
  state_checked locations values =
      elim (lengths_fit x (length locations) (length values)) [
        | false ↦ Err (row 21)
        | true ↦
            elim (locations_known words x locations) [
              | false ↦ Err (row 22)
              | true ↦ elim (values_known words x values) [ false ↦ Err (row 23) | true ↦ Ok tt ]
            ]
      ]

  -- of values, for locations that have passed
  unfoldable pub values_checked : (values : List ℤ) → Result ⊤ Row
  values_checked values =
      elim (eqb (length values) x.variables) [
        | false ↦ Err (row 21)
        | true ↦ elim (values_known words x values) [ false ↦ Err (row 23) | true ↦ Ok tt ]
      ]

  -- of the states before and after
  unfoldable pub lists_checked : (locations : List ℕ) (values : List ℤ) (new_locations : List ℕ)
      → (new_values : List ℤ) → Result ⊤ Row
  lists_checked locations values new_locations new_values =
      elim
      (not (lengths_fit x (length locations) (length values)) ||
      not (lengths_fit x (length new_locations) (length new_values))) [
        | true ↦ Err (row 21)
        | false ↦
            elim (not (locations_known words x locations) || not (locations_known words x new_locations)) [
              | true ↦ Err (row 22)
              | false ↦
                  elim (not (values_known words x values) || not (values_known words x new_values)) [
                    | true ↦ Err (row 23)
                    | false ↦ Ok tt
                  ]
            ]
      ]

-- the first row that refuses, or the phase
unfoldable pub then_lists : Result ⊤ Row → Phase → Result Phase Row
then_lists (Ok _) phase = Ok phase
then_lists (Err r) phase = Err r

unfoldable pub then_phase : Result Phase Row → Result ⊤ Row → Result Phase Row
then_phase (Err r) lists = Err r
then_phase (Ok phase) lists = then_lists lists phase

module _ (words : List ℕ) (x : Layout) where
  -- rows 20 to 23
  unfoldable pub admitted_on : (phase : ℕ) (locations : List ℕ) (values : List ℤ) (new_locations : List ℕ)
      → (new_values : List ℤ) → Result Phase Row
  admitted_on phase locations values new_locations new_values =
      then_phase (phase_read phase) (lists_checked words x locations values new_locations new_values)

-- rows 20 to 23 of the state that a run starts from
unfoldable pub begun_on : (words : List ℕ) → Layout → (locations : List ℕ) (values : List ℤ) (phase : ℕ)
    → Result Phase Row
begun_on words x locations values phase = then_phase (phase_read phase) (state_checked words x locations values)
