-- The composition's own start conditions, the P's of the `ini`, over the words of a table: n predicates, of which the
-- first stands at a place. A layout says where the tree stands. On a sheet's words they are the model's: the law
-- starts_are of crate `merge_table`.
use Rattle.std.specs.Prelude.{List, [], ◌++◌, ℕ, zero, suc, ◌+◌, get_or}
use Rattle.table_places.specs.declared.layout.Layout.{Layout}
use Rattle.table_places.specs.Outline.{after_predicate}
use Rattle.table_places.specs.Starts.{starts_at, start_count, first_start}
use Rattle.merge_append.specs.Runs.{nodes_at}
use Rattle.merge_append.specs.NodeWords.{capped}
use Rattle.merge_predicates.specs.declared.starts.Starts.{Starts}

unfoldable pub starts_of : (t : List ℕ) (x : Layout) → Starts
starts_of t x =
    let at = starts_at t x.tree in
    record { first = first_start t at; count = start_count t at }

-- the merged inv has none
unfoldable pub no_starts : Starts
no_starts = record { first = 0; count = 0 }

-- their nodes: how many, added to a sum; and the nodes, in a row
unfoldable pub add_starts : (t : List ℕ) (at n sum : ℕ) → ℕ
add_starts t at zero sum = sum
add_starts t at (suc n) sum = add_starts t (after_predicate t at) n (capped (sum + get_or t at 0))

unfoldable pub start_nodes_at : (t : List ℕ) (at n : ℕ) → List ℕ
start_nodes_at t at zero = []
start_nodes_at t at (suc n) = nodes_at t at ++ start_nodes_at t (after_predicate t at) n
