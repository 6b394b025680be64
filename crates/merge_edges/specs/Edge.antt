-- The words of one merged edge, from where its takers' edges stand; 0 stands for an automaton that takes none.
use Rattle.std.specs.Prelude.{Bool, true, false, ◌||◌, List, [], ◌∷◌, ◌++◌, ℕ, ◌+◌, get_or, eqb}
use Rattle.table_places.specs.Outline.{edge_from, edge_to, update_place}
use Rattle.merge_append.specs.Runs.{nodes_at}
use Rattle.merge_append.specs.NodeWords.{all_node, number_node, old_node, new_node, eq_node, pointer_of, capped}
use Rattle.merge_predicates.specs.Depths.{is_deeper}

-- a taker's update; then `eq` of its old pointer and FROM, `eq` of its new pointer and TO
unfoldable pub update_at : (t : List ℕ) (place : ℕ) → List ℕ
update_at t place = elim (eqb place 0) [ true ↦ [] | false ↦ nodes_at t (update_place t place) ]

unfoldable pub move_at : (t : List ℕ) (k place : ℕ) → List ℕ
move_at t k place =
    elim (eqb place 0) [
      | true ↦ []
      | false ↦
          eq_node ∷ old_node k ∷ number_node (edge_from t place) ∷
          eq_node ∷ new_node k ∷ number_node (edge_to t place) ∷ []
    ]

unfoldable pub updates_at : (t : List ℕ) (places : List ℕ) → List ℕ
updates_at t [] = []
updates_at t (p ∷ ps) = update_at t p ++ updates_at t ps

-- the pointers after v variables, from automaton i on
unfoldable pub moves_at : (t : List ℕ) (v i : ℕ) (places : List ℕ) → List ℕ
moves_at t v i [] = []
moves_at t v i (p ∷ ps) = move_at t (pointer_of v i) p ++ moves_at t v (i + 1) ps

-- the nodes of a taker: its update's, and six
unfoldable pub taker_nodes : (t : List ℕ) (sum place : ℕ) → ℕ
taker_nodes t sum place =
    elim (eqb place 0) [ true ↦ sum | false ↦ capped (capped (sum + 6) + get_or t (update_place t place) 0) ]

unfoldable pub takers_nodes : (t : List ℕ) (sum : ℕ) (places : List ℕ) → ℕ
takers_nodes t sum [] = sum
takers_nodes t sum (p ∷ ps) = takers_nodes t (taker_nodes t sum p) ps

-- the operands of `all 3m`: three for a taker, added to a sum
unfoldable pub taker_operands : (sum place : ℕ) → ℕ
taker_operands sum place = elim (eqb place 0) [ true ↦ sum | false ↦ capped (sum + 3) ]

unfoldable pub takers_operands : (sum : ℕ) (places : List ℕ) → ℕ
takers_operands sum [] = sum
takers_operands sum (p ∷ ps) = takers_operands (taker_operands sum p) ps

-- the edge: from 0, the action, to 0, the count of nodes, `all 3m`, the updates, and the pointers after v variables
unfoldable pub edge_by : (t : List ℕ) (v action : ℕ) (places : List ℕ) → List ℕ
edge_by t v action places =
    0 ∷ action ∷ 0 ∷ takers_nodes t 1 places ∷ all_node (takers_operands 0 places) ∷
    (updates_at t places ++ moves_at t v 0 places)

-- its update is one deeper than the takers'
unfoldable pub update_deep : (t : List ℕ) (place : ℕ) → Bool
update_deep t place = elim (eqb place 0) [ true ↦ false | false ↦ is_deeper t 23 (update_place t place) ]

unfoldable pub updates_deep : (t : List ℕ) (places : List ℕ) → Bool
updates_deep t [] = false
updates_deep t (p ∷ ps) = update_deep t p || updates_deep t ps
