-- Where the parts of a sheet stand, found by one walk. On a sheet's words they are the places of Outline: the laws of
-- LayoutLaws.
use Rattle.std.specs.Prelude.{List, [], ◌∷◌, map, ℕ, zero, suc, length, replicate}
use Rattle.std.proofs.lemmas.List.Edits.{sets}
use Rattle.model.specs.Bounds.{max_automata, max_variables}
use Rattle.table_places.specs.declared.layout.Layout.{Layout}
use Rattle.table_places.specs.AtMost.{at_most}
use Rattle.table_places.specs.Outline.{actions_in, variables_in, automata_in, first_automaton, edges_at}
use Rattle.table_places.specs.Outline.{after_automaton, passed}

-- the places of n automata, of which the first stands at a place
unfoldable pub places_from : (t : List ℕ) (n at : ℕ) → List ℕ
places_from t zero at = []
places_from t (suc n) at = at ∷ places_from t n (after_automaton t at)

-- in an array; past them the table's end
unfoldable pub in_array : (t places : List ℕ) → List ℕ
in_array t places = sets (replicate max_automata (length t)) 0 places

unfoldable pub layout_of : (t : List ℕ) → Layout
layout_of t =
    let n = at_most max_automata (automata_in t) in
    record {
      actions = actions_in t;
      variables = variables_in t;
      automata = automata_in t;
      sets = in_array t (places_from t n (first_automaton t));
      edges = in_array t (map (edges_at t) (places_from t n (first_automaton t)));
      tree = passed t (first_automaton t) n;
    }

-- N and V, as far as a sheet has automata and variables
unfoldable pub automata_of : Layout → ℕ
automata_of x = at_most max_automata x.automata

unfoldable pub variables_of : Layout → ℕ
variables_of x = at_most max_variables x.variables
