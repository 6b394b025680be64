-- Rows 20 to 24 over the words of a table and a layout; each test is true where its row lets a call pass. On a model's
-- table and its layout they are the rows of the definitions: the laws of RowLaws.
use Rattle.std.specs.Prelude.{Result, Ok, Err}
use Rattle.model.specs.declared.Row.{Row}
use Rattle.model.specs.Row.{row}
use Rattle.std.specs.Prelude.{Bool, true, false, ◌&&◌, List, ℕ, ℤ, pos, get_or, eqb, leb, ltb}
use Rattle.model.specs.Basic.{between}
use Rattle.model.specs.Table.{unbiased}
use Rattle.table_places.specs.declared.layout.Layout.{Layout}
use Rattle.table_places.specs.Outline.{location_count, range_at, low_at, high_at}
use Rattle.table_places.specs.Layout.{automata_of}
use Rattle.judge_rows.specs.declared.Phase.{Phase}
use Rattle.judge_rows.specs.declared.Phase.TheVariants.{Start, Running}
use Rattle.judge_rows.specs.Each.{each_from}

-- row 20
unfoldable pub phase_read : ℕ → Result Phase Row
phase_read phase =
    elim (eqb phase 0) [
      | true ↦ Ok Start
      | false ↦ elim (eqb phase 1) [ true ↦ Ok Running | false ↦ Err (row 20) ]
    ]

-- row 21, for so many locations and values
unfoldable pub lengths_fit : Layout → (locations values : ℕ) → Bool
lengths_fit x locations values = eqb locations x.automata && eqb values x.variables

-- row 22, for the automaton at a place
unfoldable pub location_known : (words locations : List ℕ) (at k : ℕ) → Bool
location_known words locations at k = ltb (get_or locations k 0) (location_count words at)

abbrev pub known_at : (words locations places : List ℕ) (k : ℕ) → Bool
known_at words locations places k = location_known words locations (get_or places k 0) k

unfoldable pub locations_known : (words : List ℕ) → Layout → (locations : List ℕ) → Bool
locations_known words x locations = each_from (known_at words locations x.sets) 0 (automata_of x)

-- row 23
unfoldable pub range_has : (words : List ℕ) (values : List ℤ) (k : ℕ) → Bool
range_has words values k =
    between (unbiased (low_at words (range_at words k))) (unbiased (high_at words (range_at words k)))
    (get_or values k (pos 0))

unfoldable pub values_known : (words : List ℕ) → Layout → (values : List ℤ) → Bool
values_known words x values = each_from (range_has words values) 0 x.variables

-- row 24
unfoldable pub action_known : Layout → (action : ℕ) → Bool
action_known x action = leb action x.actions
