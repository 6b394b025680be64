-- What `judge` answers: the P's are read one after the other, each with the nodes before it. With room enough the row
-- is the smallest of rows 6 to 11 that the text breaks: the law judged_rows.
use Rattle.std.specs.Prelude as Std
use Rattle.std.specs.Prelude.{ℕ, suc, ◌+◌, true, false, List, [], ◌∷◌, leb, ltb, Some, None, Result, Ok, Err}
use Rattle.std.proofs.Math.Option.{Option, none, some}
use Rattle.model.specs.Bounds.{max_nodes, max_tree_nodes}
use Rattle.model.specs.declared.Row.{Row}
use Rattle.model.specs.Row as R
use Rattle.format.specs.Bytes.{Bytes}
use Rattle.read_nodes.specs.declared.NodesError.{NodesError}
use Rattle.read_nodes.specs.declared.NodesError.TheVariants as E
use Rattle.read_nodes.specs.Nodes.{nodes_read}
use Rattle.read_starts.specs.declared.judging.Judged.{Judged}
use Rattle.read_starts.specs.Texts.{start_texts}

-- a sum, as far as a sheet can have nodes
unfoldable pub sum_up : ℕ → ℕ → ℕ
sum_up a b = elim (leb (a + b) max_nodes) [ true ↦ a + b | false ↦ suc max_nodes ]

-- of a row and the smallest so far, if there is one, the smaller
unfoldable pub smaller : (row : Row) (sofar : Std.Option Row) → Row
smaller row None = row
smaller row (Some sofar) = elim (leb row.0 sofar.0) [ true ↦ row | false ↦ sofar ]

unfoldable pub one_more : ℕ → ℕ
one_more count = elim (ltb count max_tree_nodes) [ true ↦ count + 1 | false ↦ count ]

abbrev pub judged : (row : Std.Option Row) (nodes count : ℕ) → Judged
judged row nodes count = record { row = row; nodes = nodes; count = count }

unfoldable pub begun : (before : ℕ) → Judged
begun before = elim (ltb max_nodes before) [ true ↦ judged (Some (R.row 11)) 0 0 | false ↦ judged None 0 0 ]

unfoldable pub with_start : Judged → Result ℕ NodesError → Judged
with_start j (Ok n) = judged j.row (sum_up j.nodes n) (one_more j.count)
with_start j (Err (E.Row row)) = judged (Some (smaller row j.row)) j.nodes (one_more j.count)
with_start j (Err E.Full) = judged (Some (smaller (R.row 6) j.row)) j.nodes (one_more j.count)

module _ (variables : ℕ) (ranges : List ℕ) (before room high : ℕ) where
  unfoldable pub judged_from : Judged → List Bytes → Judged
  judged_from j [] = j
  judged_from j (p ∷ ps) =
      judged_from (with_start j (nodes_read p true variables ranges (sum_up before j.nodes) room high)) ps

  unfoldable pub judged_all : Bytes → Judged
  judged_all s = judged_from (begun before) (start_texts s)

-- the row that it says
unfoldable pub row_of : Std.Option Row → Option ℕ
row_of None = none
row_of (Some row) = some row.0
