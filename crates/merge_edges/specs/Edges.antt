-- The words of all merged edges, from a list that has sixteen places for each: where the edges stand that the automata
-- take, 0 for an automaton that takes none.
use Rattle.std.specs.Prelude.{true, false, List, [], ◌∷◌, ◌++◌, ℕ, zero, suc, eqb}
use Rattle.table_places.specs.Outline.{reach, edge_action}
use Rattle.merge_append.specs.Runs.{run}
use Rattle.merge_edges.specs.Edge.{edge_by}

-- the action of a merged edge is that of its first taker's edge
unfoldable pub action_at : (t places : List ℕ) → ℕ
action_at t [] = 0
action_at t (p ∷ ps) = elim (eqb p 0) [ true ↦ action_at t ps | false ↦ edge_action t p ]

-- the words of the merged edge of these takers, with pointers after v variables
unfoldable pub edge_of : (t : List ℕ) (v : ℕ) (places : List ℕ) → List ℕ
edge_of t v places = edge_by t v (action_at t places) places

-- of n merged edges, whose takers stand in a list from a place on
unfoldable pub edges_from : (t : List ℕ) (v : ℕ) (list : List ℕ) (at n : ℕ) → List ℕ
edges_from t v list at zero = []
edges_from t v list at (suc n) = edge_of t v (run list at 16) ++ edges_from t v list (reach list at 16) n
