-- What holds of every automaton and of the composition, over the words of a table, a layout, and states as the code
-- holds them. On a model's table and its layout it is `settled` of the definitions: the law settled_is.
use Rattle.std.specs.Prelude.{Bool, true, false, ◌&&◌, List, ℕ, zero, suc, ℤ, get_or, take}
use Rattle.evaluator.specs.Evaluate.{evaluate}
use Rattle.table_places.specs.declared.layout.Layout.{Layout}
use Rattle.table_places.specs.Outline.{nodes_place, first_location, location_at, after_predicate}
use Rattle.table_places.specs.Layout.{automata_of, variables_of}
use Rattle.table_places.specs.Starts.{starts_at, start_count, first_start}
use Rattle.judge_rows.specs.declared.Phase.{Phase}
use Rattle.judge_rows.specs.declared.Phase.TheVariants.{Start, Running}
use Rattle.judge_rows.specs.declared.State.{State}
use Rattle.judge_settled.specs.declared.Part.{Part}
use Rattle.judge_settled.specs.declared.Part.TheVariants.{Init, Inv}
use Rattle.judge_rows.specs.Each.{each_from}

-- where a predicate of location j stands, `at` being the automaton's place
unfoldable pub part_at : (words : List ℕ) → Part → (at j : ℕ) → ℕ
part_at words Init at j = location_at words (first_location words at) j
part_at words Inv at j = after_predicate words (location_at words (first_location words at) j)

module _ (words : List ℕ) (x : Layout) where
  unfoldable pub part_holds : (values : List ℤ) (at : ℕ) → Bool
  part_holds values at =
      evaluate words (take (variables_of x) values) (take (variables_of x) values) (nodes_place words at)

  unfoldable pub location_holds : Part → State → (at k : ℕ) → Bool
  location_holds part s at k = part_holds s.values (part_at words part at (get_or s.locations k 0))

  abbrev pub holds_at : Part → State → (places : List ℕ) (k : ℕ) → Bool
  holds_at part s places k = location_holds part s (get_or places k 0) k

  unfoldable pub all_hold : Part → State → Bool
  all_hold part s = each_from (holds_at part s x.sets) 0 (automata_of x)

  -- the `left` predicates from a place on hold
  unfoldable pub hold_from : (values : List ℤ) (at left : ℕ) → Bool
  hold_from values at zero = true
  hold_from values at (suc left) =
      elim (part_holds values at) [ true ↦ hold_from values (after_predicate words at) left | false ↦ false ]

  -- every P of an `ini`; `place` is where their number stands
  unfoldable pub starts_hold_at : State → Bool
  starts_hold_at s =
      let place = starts_at words x.tree in
      hold_from s.values (first_start words place) (start_count words place)

  unfoldable pub started_in : State → Phase → Bool
  started_in s Start = all_hold Init s && starts_hold_at s
  started_in s Running = true

  abbrev pub started : State → Bool
  started s = started_in s s.phase

  unfoldable pub settled_at : (s t : State) → Bool
  settled_at s t =
      elim (started s) [
        | false ↦ false
        | true ↦ elim (all_hold Inv s) [ false ↦ false | true ↦ all_hold Inv t ]
      ]
