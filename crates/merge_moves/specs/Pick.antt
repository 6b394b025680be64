-- The k-th move, from the words of a tree and its plan. On a lawful tree it is the k-th of `moves`: the law pick_is.
use Rattle.std.specs.Prelude.{Bool, true, false, ◌&&◌, List, ℕ, zero, suc, ◌+◌, ◌-◌, ◌/◌, ◌%◌, get_or, set, eqb, ltb}
use Rattle.model.specs.Bounds.{max_automata, max_edges, max_tree_nodes}
use Rattle.table_tree.specs.declared.nodes.Found.{Found}
use Rattle.table_tree.specs.declared.nodes.Found.TheVariants.{Par, Syn, Leaf, Stray}
use Rattle.table_tree.specs.Nodes.{node_at, skip_from}
use Rattle.merge_moves.specs.declared.picking.Taking.{Taking}
use Rattle.merge_moves.specs.declared.picking.Taking.TheVariants.{Both, Left, Right, Nobody}
use Rattle.merge_moves.specs.Capping.{max_cells, inside_of}

-- move k of a `par`, by whether the action is in its sides' sets and how many moves they have
unfoldable pub divided_by : Bool → Bool → (left right k : ℕ) → Taking
divided_by true true left right k = elim (eqb right 0) [ true ↦ Nobody | false ↦ Both (k / right) (k % right) ]
divided_by true false left right k = Left k
divided_by false true left right k = Right k
divided_by false false left right k = elim (ltb k left) [ true ↦ Left k | false ↦ Right (k - left) ]

-- the same by the sides' cells
unfoldable pub divided : (left right k : ℕ) → Taking
divided left right k = divided_by (inside_of left) (inside_of right) (left / 2) (right / 2) k

-- automaton i takes edge k of those that it has under the action
unfoldable pub named : (i k : ℕ) → List ℕ → List ℕ
named i k edges = elim (ltb i max_automata && ltb k max_edges) [ true ↦ set edges i (k + 1) | false ↦ edges ]

-- the edges named so far, and how many nodes are left
pub record Picked : Type 0 where
  pub edges : List ℕ
  pub left : ℕ

abbrev pub picked : (edges : List ℕ) (left : ℕ) → Picked
picked edges left = record { edges = edges; left = left }

-- a way to pick move k of the subtree at a place, with so many nodes left
abbrev pub Picker : Type 0
Picker = (left at k : ℕ) → List ℕ → Picked

-- The sides that take part have their edges named, by P; the first stands at one place, the second at another. The
-- second gets what the first has left.
unfoldable pub pick_sides : (P : Picker) (first second : ℕ) → Taking → (left : ℕ) → List ℕ → Picked
pick_sides P first second (Both i j) left edges = let p = P left first i edges in P p.left second j p.edges
pick_sides P first second (Left i) left edges = P left first i edges
pick_sides P first second (Right j) left edges = P left second j edges
pick_sides P first second Nobody left edges = picked edges left

-- where the subtree at a place ends, and its cell
abbrev pub end_of : (words : List ℕ) (at : ℕ) → ℕ
end_of words at = skip_from words max_tree_nodes 1 at

unfoldable pub cell_at : (cells : List ℕ) (root at : ℕ) → ℕ
cell_at cells root at = elim (ltb (at - root) max_cells) [ true ↦ get_or cells (at - root) 0 | false ↦ 0 ]

unfoldable pub pick_by : (P : Picker) (words cells : List ℕ) (root k : ℕ) → Found → (left : ℕ) → List ℕ → Picked
pick_by P words cells root k (Par next) left edges =
    pick_sides P next (end_of words next)
    (divided (cell_at cells root next) (cell_at cells root (end_of words next)) k) left edges
pick_by P words cells root k (Syn a b next) left edges = P left next k edges
pick_by P words cells root k (Leaf i next) left edges = picked (named i k edges) left
pick_by P words cells root k Stray left edges = picked edges left

-- Move k of the subtree at `at`, with `left` nodes left: a node uses one, and none is read where none is left.
module _ (words cells : List ℕ) (root : ℕ) where
  unfoldable pub pick_step : (P : Picker) → (left at k : ℕ) → List ℕ → Picked
  pick_step P zero at k edges = picked edges 0
  pick_step P (suc n) at k edges = pick_by P words cells root k (node_at words at) n edges

  -- with calls nested at most `deep`
  unfoldable pub pick_within : (deep left at k : ℕ) → List ℕ → Picked
  pick_within zero left at k edges = picked edges left
  pick_within (suc d) left at k edges = pick_step (λ l a i es. pick_within d l a i es) left at k edges

  -- calls cannot nest deeper than there are nodes, so this is a step of itself: the law pick_step_lem
  unfoldable pub picked_at : (left at k : ℕ) → List ℕ → Picked
  picked_at left at k edges = pick_within left left at k edges

  unfoldable pub pick_at : (left at k : ℕ) → List ℕ → List ℕ
  pick_at left at k edges = (picked_at left at k edges).edges
