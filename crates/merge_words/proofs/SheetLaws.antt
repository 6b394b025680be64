-- Each way out of the code of src/sheet.rt.
use mathlib.Core.Path.{◌≡◌}
use mathlib.Core.List.{List, [], ◌∷◌}
use Prim.Native.Nat.{ℕ}
use Rattle.merge_append.specs.declared.append.Filling.{Filling}
use Rattle.merge_append.specs.Append.{Filled}
use Rattle.table_places.specs.declared.layout.Layout.{Layout}
use Rattle.merge_predicates.specs.declared.functions.Functions.{Functions}
use Rattle.merge_predicates.specs.declared.starts.Starts.{Starts}
use Rattle.merge_predicates.specs.Starts.{no_starts}
use Rattle.merge_predicates.specs.Clauses.{merged_words}
use Rattle.merge_edges.specs.Edges.{edges_from}
use Rattle.merge_words.specs.declared.gathering.Gathered.{Gathered}
use Rattle.merge_words.specs.Head.{head_words}
use Rattle.merge_words.specs.Sync.{words_of}
use Rattle.merge_words.specs.MergedSheet.{location_words, automaton_words, merged_sheet}
use Rattle.merge_append.proofs.AppendLaws.{then_filled}

pub location_is : (t : List ℕ) (x : Layout) (fs : Functions) (s none : Starts) (gs : Functions) → none ≡ no_starts
    → (old m1 m2 new : Filling) → Filled (1 ∷ []) old m1 → Filled (merged_words t x fs s) m1 m2
    → Filled (merged_words t x gs none) m2 new → Filled (location_words t x fs s gs) old new
unfolding location_words
location_is t x fs s none gs e old m1 m2 new p q u = rw (← e) (then_filled p (then_filled q u))

module _ (t : List ℕ) (g : Gathered) (takers : List ℕ) where
  pub automaton_is : (old m1 m2 m3 new : Filling) → Filled (words_of g.sets) old m1
      → Filled (location_words t g.wildcards g.inits g.starts g.invs) m1 m2 → Filled (g.edges ∷ []) m2 m3
      → Filled (edges_from t g.wildcards.variables takers 0 g.edges) m3 new → Filled (automaton_words t g takers) old new
  unfolding automaton_words
  automaton_is old m1 m2 m3 new p q s u = then_filled p (then_filled q (then_filled s u))

  pub sheet_is : (old m1 m2 new : Filling) → Filled (head_words t g.wildcards) old m1
      → Filled (automaton_words t g takers) m1 m2 → Filled (1 ∷ 2 ∷ 0 ∷ []) m2 new → Filled (merged_sheet t g takers) old new
  unfolding merged_sheet
  sheet_is old m1 m2 new p q s = then_filled p (then_filled q s)
