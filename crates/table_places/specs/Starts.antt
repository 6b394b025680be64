-- The start conditions, the P's of the `ini`: where they stand in the words of a table. On a sheet's words they are the
-- model's: the laws of StartLaws.
use Rattle.std.specs.Prelude.{List, ℕ, zero, suc, get_or}
use Rattle.model.specs.Bounds.{max_tree_nodes}
use Rattle.table_tree.specs.Nodes.{skip_from}
use Rattle.table_places.specs.AtMost.{at_most}
use Rattle.table_places.specs.Outline.{reach, nodes_place, after_predicate}

-- their number, from the tree's: after its nodes
unfoldable pub starts_at : (t : List ℕ) (tree : ℕ) → ℕ
starts_at t tree = skip_from t max_tree_nodes 1 (nodes_place t tree)

-- it, by its place, as far as a tree can have so many; and where the first P stands
unfoldable pub start_count : (t : List ℕ) (at : ℕ) → ℕ
start_count t at = at_most max_tree_nodes (get_or t at 0)

unfoldable pub first_start : (t : List ℕ) (at : ℕ) → ℕ
first_start t at = reach t at 1

-- P number k, from P number 0
unfoldable pub start_at : (t : List ℕ) (at k : ℕ) → ℕ
start_at t at zero = at
start_at t at (suc k) = start_at t (after_predicate t at) k
