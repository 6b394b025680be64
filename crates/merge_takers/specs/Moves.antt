-- The moves of an action: how many there are, and which edges each has. A layout says where the automata's edges and
-- the tree stand.
use Rattle.std.specs.Prelude.{Bool, true, false, List, [], ◌∷◌, ℕ, zero, suc, ◌+◌, get_or, replicate}
use Rattle.std.proofs.lemmas.List.Edits.{sets}
use Rattle.model.specs.Bounds.{max_automata, max_tree_nodes}
use Rattle.table_places.specs.declared.layout.Layout.{Layout}
use Rattle.table_places.specs.AtMost.{at_most}
use Rattle.table_places.specs.Outline.{nodes_place, after_predicate, update_place, first_edge}
use Rattle.table_places.specs.Layout.{automata_of}
use Rattle.merge_moves.specs.Plan.{plan_at, fill_at}
use Rattle.merge_moves.specs.Pick.{pick_at}
use Rattle.merge_append.specs.Append.{narrow}
use Rattle.merge_append.specs.NodeWords.{capped}
use Rattle.merge_takers.specs.declared.moves.ActionPlan.{ActionPlan}
use Rattle.merge_takers.specs.Taking.{is_under, takers}

-- how many of n edges are under an action, added to a sum
unfoldable pub one_more : (here : Bool) (sum : ℕ) → ℕ
one_more here sum = elim here [ true ↦ capped (sum + 1) | false ↦ sum ]

unfoldable pub under_from : (t : List ℕ) (action n at sum : ℕ) → ℕ
under_from t action zero at sum = sum
under_from t action (suc n) at sum =
    under_from t action n (after_predicate t (update_place t at)) (one_more (is_under t action at) sum)

-- of an automaton, whose count of edges stands at `edges`
unfoldable pub under_at : (t : List ℕ) (action edges : ℕ) → ℕ
under_at t action edges = under_from t action (get_or t edges 0) (first_edge t edges) 0

-- of n automata, from automaton i on; of all
unfoldable pub counts_from : (t edges : List ℕ) (action i n : ℕ) → List ℕ
counts_from t edges action i zero = []
counts_from t edges action i (suc n) =
    narrow (under_at t action (get_or edges i 0)) ∷ counts_from t edges action (i + 1) n

unfoldable pub counts_of : (t : List ℕ) (x : Layout) (action : ℕ) → List ℕ
counts_of t x action = sets (replicate max_automata 0) 0 (counts_from t x.edges action 0 (automata_of x))

-- where the tree's nodes stand
abbrev pub root_of : (t : List ℕ) (x : Layout) → ℕ
root_of t x = nodes_place t x.tree

-- the plan of an action: the cells, and how many moves there are, at most 513
module _ (t : List ℕ) (x : Layout) (own : List ℕ) (action : ℕ) where
  unfoldable pub cells_of : List ℕ
  cells_of = fill_at t own (counts_of t x action) action (root_of t x) max_tree_nodes (root_of t x) (replicate 192 0)

  unfoldable pub move_total : ℕ
  move_total = (plan_at t own (counts_of t x action) action max_tree_nodes (root_of t x)).count

  unfoldable pub plan_of : ActionPlan
  plan_of = record { cells = cells_of; count = move_total }

-- move k, as picks; and where the edges stand that it takes
module _ (t : List ℕ) (x : Layout) (cells : List ℕ) where
  unfoldable pub picks_of : (k : ℕ) → List ℕ
  picks_of k = pick_at t cells (root_of t x) max_tree_nodes (root_of t x) k (replicate 16 0)

  unfoldable pub places_of : (action k : ℕ) → List ℕ
  places_of action k = takers t x action (picks_of k)

-- A, as far as a sheet can have actions
unfoldable pub last_action : (x : Layout) → ℕ
last_action x = at_most 63 x.actions

-- how many merged edges n actions have, from one on, added to a sum; and all
module _ (t : List ℕ) (x : Layout) (own : List ℕ) where
  unfoldable pub moves_of : (action n sum : ℕ) → ℕ
  moves_of action zero sum = sum
  moves_of action (suc n) sum = moves_of (action + 1) n (capped (sum + move_total t x own action))

  unfoldable pub moves_in : ℕ
  moves_in = moves_of 0 (last_action x + 1) 0
