-- The linearization of a table: rows 18, 19 and 31 to 34, or the table of the merged model (Definition 4).
use Rattle.std.specs.Prelude.{ℕ, true, false, List, map, replicate}
use Rattle.std.proofs.Math.Option.{none, some}
use Rattle.model.specs.Bounds.{table_words}
use Rattle.model.specs.Model.{Model}
use Rattle.model.specs.Table.{table_of, Opened, unopened, opened, open_table}
use Rattle.model.specs.Linear.{linear, merged_count, merge_fault}
use Rattle.table_append.specs.Append.{put}
use Rattle.table_places.specs.Layout.{layout_of}
use Rattle.merge_append.specs.Append.{narrow}
use Rattle.merge_distinct.specs.Distinct.{repeats_in, distinct_words}
use Rattle.merge_words.specs.declared.Linearization.{Linearization}
use Rattle.merge_words.specs.Linearize.{refused_by, merged_to}

-- of a model: rows 31 to 34, or the merged model's table and its count of edges
unfoldable pub linear_model : Model → Linearization
linear_model m =
    elim (merge_fault m) [ some row ↦ refused_by row | none ↦ merged_to (merged_count m) (table_of (linear m)) ]

-- of a table: rows 18 and 19 first
unfoldable pub linearization_of : Opened → Linearization
linearization_of (unopened row) = refused_by row
linearization_of (opened m) = linear_model m

unfoldable pub linearization : (table : List ℕ) → Linearization
linearization table = linearization_of (open_table table)

-- How the code finds it: the words are merged as they are where no automaton has an edge twice, and else without the
-- repeats.
unfoldable pub distinct_table : (table : List ℕ) → List ℕ
distinct_table t =
    elim (repeats_in t (layout_of t)) [
      | true ↦ put 0 (map narrow (distinct_words t (layout_of t))) (replicate table_words 0)
      | false ↦ t
    ]
