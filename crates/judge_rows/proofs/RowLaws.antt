-- On the words of a sheet and its layout the tests over words are the rows of the definitions.
use mathlib.Core.Path.{◌≡◌, refl, ap, ◌∙◌}
use mathlib.Core.Bool.{Bool, not}
use mathlib.Core.List.{List, ◌++◌}
use Prim.Native.Nat.{ℕ, ◌<◌}
use lib.IntN.{ℤ, pos}
use lib.ListN.{length, get_or}
use lib.Dec.{ltb}
use Rattle.model.specs.Basic.{between, each}
use Rattle.model.specs.Predicate.{range}
use Rattle.model.specs.Model.{Model, automaton, owner_of}
use Rattle.model.specs.Lawful.{LawfulRange, Lawful}
use Rattle.model.specs.Table.{sheet_words}
use Rattle.model.specs.Rules.{State, at}
use Rattle.model.specs.Judge.{has_values, row21, row22, range_of, row23, row24}
use Rattle.model.proofs.Lists.{all_at}
use Rattle.model.proofs.Decode.{number_back}
use Rattle.table_places.specs.Outline.{automaton_at, range_at}
use Rattle.table_places.specs.Layout.{layout_of, automata_of}
use Rattle.table_places.proofs.OutlineLaws.{actions_in_lem, variables_in_lem, automata_in_lem, location_count_lem, range_low, range_high}
use Rattle.table_places.proofs.Standing.{automaton_stands, range_stands}
use Rattle.table_places.proofs.LayoutLaws.{all_automata, set_place}
use Rattle.model.proofs.Tests.{not_leb}
use Rattle.judge_rows.specs.Each.{each_from}
use Rattle.judge_rows.specs.RowTests.{lengths_fit, location_known, locations_known, range_has, values_known, action_known}
use Rattle.judge_rows.proofs.WalkLaws.{each_walked}

-- the range that a read past the end gives
zero_alone : LawfulRange (range (pos 0) (pos 0))
unfolding between range
zero_alone = record { low = refl; high = refl; ordered = refl }

module _ (m : Model) (lawful : Lawful m) (t rest : List ℕ) (e : t ≡ sheet_words m ++ rest) where
  -- a walk over the automata's places is a test of each
  pub each_automaton : (test : (at k : ℕ) → Bool) (f : ℕ → Bool) → ((k : ℕ) → k < length m.automata → test (automaton_at t k) k ≡ f k)
      → each_from (λ k. test (get_or (layout_of t).sets k 0) k) 0 (automata_of (layout_of t)) ≡ each (length m.automata) f
  each_automaton test f h =
      let one : ℕ → Bool = λ k. test (get_or (layout_of t).sets k 0) k in
      ap (each_from one 0) (all_automata m lawful t rest e) ∙
      each_walked one (length m.automata) f (λ k l. ap (λ (a : ℕ). test a k) (set_place m lawful t rest e k l) ∙ h k l)

  -- row 21
  pub lengths_row : (s : State) → not (lengths_fit (layout_of t) (length s.locations) (length s.values)) ≡ row21 m s
  unfolding lengths_fit layout_of row21 has_values
  lengths_row s = rw (automata_in_lem t rest m e, variables_in_lem t rest m e)

  -- row 22
  pub locations_row : (s : State) → not (locations_known t (layout_of t) s.locations) ≡ row22 m s
  unfolding locations_known location_known row22
  locations_row s =
      ap not
      (each_automaton (location_known t s.locations) (λ k. ltb (at s k) (length (automaton m k).locations))
      (λ k l. ap (ltb (at s k)) (location_count_lem t _ (automaton m k) (automaton_at t k) (automaton_stands t rest m k l e))))

  range_row : (values : List ℤ) (k : ℕ) → k < length m.variables → range_has t values k ≡ between (range_of m k).low (range_of m k).high (get_or values k (pos 0))
  unfolding range_has range_of
  range_row values k h =
      let d = range (pos 0) (pos 0) in
      let v = get_or m.variables k d in
      let stands = range_stands t rest m k d h e in
      let r : LawfulRange v = all_at LawfulRange d zero_alone m.variables lawful.ranges k in
      rw (range_low t _ v (owner_of m k) (range_at t k) stands, range_high t _ v (owner_of m k) (range_at t k) stands, number_back v.low r.low, number_back v.high r.high)

  -- row 23
  pub values_row : (s : State) → not (values_known t (layout_of t) s.values) ≡ row23 m s
  unfolding values_known layout_of row23
  values_row s =
      ap not
      (ap (each_from (range_has t s.values) 0) (variables_in_lem t rest m e) ∙ each_walked (range_has t s.values) (length m.variables) _ (range_row s.values))

  -- row 24
  pub action_row : (a : ℕ) → not (action_known (layout_of t) a) ≡ row24 m a
  unfolding action_known layout_of row24
  action_row a = rw (actions_in_lem t rest m e) (not_leb a m.actions)
