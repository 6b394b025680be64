-- Definition 4's fs and gs: of each automaton, where the initial predicate (or the invariant) of each location stands.
-- A layout says where the automata stand. On a sheet's words they are the model's: the laws init_functions and
-- inv_functions.
use Rattle.std.specs.Prelude.{Bool, true, false, List, [], ◌∷◌, ◌++◌, ℕ, zero, suc, ◌+◌, ◌*◌, length, get_or, replicate}
use Rattle.std.proofs.lemmas.List.Edits.{sets}
use Rattle.model.specs.Bounds.{max_automata, max_locations}
use Rattle.table_places.specs.declared.layout.Layout.{Layout}
use Rattle.table_places.specs.AtMost.{at_most}
use Rattle.table_places.specs.Outline.{after_predicate, location_count, first_location}
use Rattle.table_places.specs.Layout.{automata_of}
use Rattle.merge_predicates.specs.declared.functions.Functions.{Functions}

-- the most locations that all automata of a sheet can have
abbrev pub max_values : ℕ
max_values = max_automata * max_locations

-- of the location at a place, its init, or its inv
unfoldable pub part_at : (t : List ℕ) (inv : Bool) (at : ℕ) → ℕ
part_at t inv at = elim inv [ true ↦ after_predicate t at | false ↦ at ]

-- where the predicates of n locations stand, of which the first stands at a place
unfoldable pub values_from : (t : List ℕ) (inv : Bool) (n at : ℕ) → List ℕ
values_from t inv zero at = []
values_from t inv (suc n) at = part_at t inv at ∷ values_from t inv n (after_predicate t (after_predicate t at))

-- the locations of the automaton at a place, as far as there can be so many
unfoldable pub domain_at : (t : List ℕ) (at : ℕ) → ℕ
domain_at t at = at_most max_locations (location_count t at)

-- of n automata, from automaton i on, where `automata` says where they stand: how many values each has
unfoldable pub domains_from : (t automata : List ℕ) (i n : ℕ) → List ℕ
domains_from t automata i zero = []
domains_from t automata i (suc n) = domain_at t (get_or automata i 0) ∷ domains_from t automata (i + 1) n

-- and the values, in a row
unfoldable pub functions_from : (t : List ℕ) (inv : Bool) (automata : List ℕ) (i n : ℕ) → List ℕ
functions_from t inv automata i zero = []
functions_from t inv automata i (suc n) =
    let at = get_or automata i 0 in
    values_from t inv (domain_at t at) (first_location t at) ++ functions_from t inv automata (i + 1) n

-- in arrays; past the automata, and past the values, 0
unfoldable pub functions_of : (t : List ℕ) (x : Layout) (inv : Bool) → Functions
functions_of t x inv =
    let values = functions_from t inv x.sets 0 (automata_of x) in
    record {
      domains = sets (replicate max_automata 0) 0 (domains_from t x.sets 0 (automata_of x));
      places = sets (replicate max_values 0) 0 values;
      total = length values;
    }
