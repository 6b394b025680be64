-- Words of a table, copied.
use Rattle.std.specs.Prelude.{List, [], ◌∷◌, ℕ, zero, suc, get_or}
use Rattle.table_places.specs.Outline.{reach, nodes_place}

-- n words, from a place on
unfoldable pub run : (t : List ℕ) (from n : ℕ) → List ℕ
run t from zero = []
run t from (suc n) = get_or t from 0 ∷ run t (reach t from 1) n

-- the nodes of the predicate whose count stands at a place
unfoldable pub nodes_at : (t : List ℕ) (at : ℕ) → List ℕ
nodes_at t at = run t (nodes_place t at) (get_or t at 0)
