-- The linearization as the code finds it over the words of a table. On the table of a model it is Definition 4's: the
-- law linear_by_is of crate `merge_table`.
use Rattle.std.specs.Prelude.{Bool, true, false, List, map, ℕ, replicate, ltb}
use Rattle.std.specs.Prelude.{Some, None, Result, Ok, Err, ⊤}
use Rattle.model.specs.declared.Row.{Row}
use Rattle.model.specs.Row.{row}
use Rattle.model.specs.Bounds.{max_variables, max_edges, max_nodes, table_words}
use Rattle.table_append.specs.Append.{put}
use Rattle.table_places.specs.declared.layout.Layout.{Layout}
use Rattle.table_places.specs.Layout.{layout_of}
use Rattle.table_places.specs.Own.{own_sets}
use Rattle.merge_append.specs.Append.{narrow}
use Rattle.merge_append.specs.NodeWords.{pointer_of}
use Rattle.merge_predicates.specs.Functions.{functions_of}
use Rattle.merge_predicates.specs.Starts.{starts_of}
use Rattle.merge_takers.specs.Moves.{moves_in}
use Rattle.merge_takers.specs.Gather.{gathered}
use Rattle.merge_words.specs.declared.Linearization.{Linearization}
use Rattle.merge_words.specs.declared.gathering.Gathered.{Gathered}
use Rattle.merge_words.specs.Sync.{sets_of}
use Rattle.merge_words.specs.MergedSheet.{merged_sheet}
use Rattle.merge_words.specs.Survey.{survey_whole}

-- what Definition 4 needs, in its order: the wild-cards, the initial predicates and the composition's own start
-- conditions, the invariants, the synchronising set, and the number of the action transitions
unfoldable pub gathered_in : (t : List ℕ) (x : Layout) → Gathered
gathered_in t x =
    record {
      wildcards = x;
      inits = functions_of t x false;
      starts = starts_of t x;
      invs = functions_of t x true;
      sets = sets_of t x;
      edges = moves_in t x (own_sets t x.sets);
    }

-- their takers, in an empty list
unfoldable pub takers_for : (t : List ℕ) (x : Layout) → List ℕ
takers_for t x = gathered t x (own_sets t x.sets) (replicate table_words 0)

-- a refusal has no edges and an empty table
unfoldable pub refused_by : (row : ℕ) → Linearization
refused_by n = record { row = Some (row n); edges = 0; table = replicate table_words 0 }

unfoldable pub merged_to : (edges : ℕ) (table : List ℕ) → Linearization
merged_to edges table = record { row = None; edges = edges; table = table }

-- row 31
unfoldable pub is_crowded : (x : Layout) → Bool
is_crowded x = ltb max_variables (pointer_of x.variables x.automata)

module _ (t : List ℕ) (g : Gathered) (takers : List ℕ) where
  -- the first of rows 32 to 34 that refuses
  unfoldable pub fault_by : Result ⊤ Row
  fault_by =
      elim (ltb max_edges g.edges) [
        | true ↦ Err (row 32)
        | false ↦
            elim (survey_whole t g takers).deep [
              | true ↦ Err (row 33)
              | false ↦ elim (ltb max_nodes (survey_whole t g takers).nodes) [ true ↦ Err (row 34) | false ↦ Ok tt ]
            ]
      ]

  -- the merged sheet in an empty table
  unfoldable pub sheet_table : List ℕ
  sheet_table = put 0 (map narrow (merged_sheet t g takers)) (replicate table_words 0)

  unfoldable pub linear_for : Linearization
  linear_for = elim fault_by [ Ok d ↦ merged_to g.edges sheet_table | Err r ↦ refused_by r.0 ]

-- row 31 is asked once the wild-cards are known
unfoldable pub linear_by : (t : List ℕ) → Linearization
linear_by t =
    elim (is_crowded (layout_of t)) [
      | true ↦ refused_by 31
      | false ↦ linear_for t (gathered_in t (layout_of t)) (takers_for t (layout_of t))
    ]
