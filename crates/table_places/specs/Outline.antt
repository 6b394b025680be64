-- Where the parts of a sheet stand in the words of a table.
use Rattle.std.specs.Prelude.{true, false, List, ℕ, zero, suc, ◌+◌, length, get_or, leb}

-- the place n words on, or the end
unfoldable pub reach : (t : List ℕ) (at n : ℕ) → ℕ
reach t at n = elim (leb (at + n) (length t)) [ true ↦ at + n | false ↦ length t ]

-- where the nodes of a predicate, or of the tree, stand: after their number
unfoldable pub nodes_place : (t : List ℕ) (at : ℕ) → ℕ
nodes_place t at = reach t at 1

-- past a predicate: its count, and so many nodes
unfoldable pub after_predicate : (t : List ℕ) (at : ℕ) → ℕ
after_predicate t at = reach t (nodes_place t at) (get_or t at 0)

-- An edge, by its place: FROM, ACT and TO, and where its update stands.
unfoldable pub edge_from : (t : List ℕ) (at : ℕ) → ℕ
edge_from t at = get_or t at 0

unfoldable pub edge_action : (t : List ℕ) (at : ℕ) → ℕ
edge_action t at = get_or t (reach t at 1) 0

unfoldable pub edge_to : (t : List ℕ) (at : ℕ) → ℕ
edge_to t at = get_or t (reach t at 2) 0

unfoldable pub update_place : (t : List ℕ) (at : ℕ) → ℕ
update_place t at = reach t at 3

-- An automaton, by its place: its set's two words, the number of its locations, and where the first of them stands.
unfoldable pub set_low : (t : List ℕ) (at : ℕ) → ℕ
set_low t at = get_or t at 0

unfoldable pub set_high : (t : List ℕ) (at : ℕ) → ℕ
set_high t at = get_or t (reach t at 1) 0

unfoldable pub location_count : (t : List ℕ) (at : ℕ) → ℕ
location_count t at = get_or t (reach t at 2) 0

unfoldable pub first_location : (t : List ℕ) (at : ℕ) → ℕ
first_location t at = reach t at 3

-- where its first edge stands, by the place of their number
unfoldable pub first_edge : (t : List ℕ) (edges : ℕ) → ℕ
first_edge t edges = reach t edges 1

-- location j, from location 0: each has two predicates
unfoldable pub location_at : (t : List ℕ) (at j : ℕ) → ℕ
location_at t at zero = at
location_at t at (suc j) = location_at t (after_predicate t (after_predicate t at)) j

-- edge k, from edge 0: each ends with its update
unfoldable pub edge_at : (t : List ℕ) (at k : ℕ) → ℕ
edge_at t at zero = at
edge_at t at (suc k) = edge_at t (after_predicate t (update_place t at)) k

-- the number of an automaton's edges, from its set: after its locations
unfoldable pub edges_at : (t : List ℕ) (at : ℕ) → ℕ
edges_at t at = location_at t (first_location t at) (location_count t at)

unfoldable pub after_automaton : (t : List ℕ) (at : ℕ) → ℕ
after_automaton t at = edge_at t (first_edge t (edges_at t at)) (get_or t (edges_at t at) 0)

-- A and V
unfoldable pub actions_in : (t : List ℕ) → ℕ
actions_in t = get_or t 1 0

unfoldable pub variables_in : (t : List ℕ) → ℕ
variables_in t = get_or t 2 0

-- variable k: after three words, and three for each variable before it; its LO, HI and owner, by its place
unfoldable pub range_at : (t : List ℕ) (k : ℕ) → ℕ
range_at t k = reach t (reach t (reach t (reach t 0 3) k) k) k

unfoldable pub low_at : (t : List ℕ) (at : ℕ) → ℕ
low_at t at = get_or t at 0

unfoldable pub high_at : (t : List ℕ) (at : ℕ) → ℕ
high_at t at = get_or t (reach t at 1) 0

unfoldable pub owner_at : (t : List ℕ) (at : ℕ) → ℕ
owner_at t at = get_or t (reach t at 2) 0

-- the number of automata: after all ranges; N; and the first automaton
unfoldable pub count_at : (t : List ℕ) → ℕ
count_at t = range_at t (variables_in t)

unfoldable pub automata_in : (t : List ℕ) → ℕ
automata_in t = get_or t (count_at t) 0

unfoldable pub first_automaton : (t : List ℕ) → ℕ
first_automaton t = reach t (count_at t) 1

-- k automata on
unfoldable pub passed : (t : List ℕ) (at k : ℕ) → ℕ
passed t at zero = at
passed t at (suc k) = passed t (after_automaton t at) k

unfoldable pub automaton_at : (t : List ℕ) (k : ℕ) → ℕ
automaton_at t k = passed t (first_automaton t) k

unfoldable pub tree_at : (t : List ℕ) → ℕ
tree_at t = automaton_at t (automata_in t)
