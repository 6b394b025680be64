-- What rows 33 and 34 ask of the merged predicates: is one too deep, and how many nodes they have. On a sheet's words
-- they are the rows: the laws survey_deep and survey_row34.
use Rattle.std.specs.Prelude.{Bool, ◌||◌, List, ℕ, zero, suc, ◌+◌}
use Rattle.table_places.specs.Outline.{reach}
use Rattle.merge_append.specs.Runs.{run}
use Rattle.merge_append.specs.NodeWords.{capped}
use Rattle.merge_predicates.specs.declared.functions.Functions.{Functions}
use Rattle.merge_predicates.specs.declared.starts.Starts.{Starts}
use Rattle.merge_predicates.specs.Starts.{no_starts}
use Rattle.merge_predicates.specs.Clauses.{merged_nodes}
use Rattle.merge_predicates.specs.Depths.{merged_deep}
use Rattle.merge_edges.specs.Edge.{takers_nodes, updates_deep}
use Rattle.merge_words.specs.declared.gathering.Gathered.{Gathered}
use Rattle.merge_words.specs.declared.survey.Survey.{Survey}

abbrev pub surveyed : (deep : Bool) (nodes : ℕ) → Survey
surveyed d n = record { deep = d; nodes = n }

-- an edge whose takers' edges stand at these places, taken in
unfoldable pub with_edge : (t places : List ℕ) → Survey → Survey
with_edge t places s = surveyed (s.deep || updates_deep t places) (capped (s.nodes + takers_nodes t 1 places))

-- n edges, whose takers stand in a list from a place on
unfoldable pub survey_from : (t list : List ℕ) (at n : ℕ) → Survey → Survey
survey_from t list at zero s = s
survey_from t list at (suc n) s = survey_from t list (reach list at 16) n (with_edge t (run list at 16) s)

-- the merged init, or the merged inv
unfoldable pub survey_of : (t : List ℕ) (f : Functions) (s : Starts) → Survey
survey_of t f s = surveyed (merged_deep t f s) (merged_nodes t f s)

-- both of them; then all edges
unfoldable pub survey_start : (t : List ℕ) (inits : Functions) (starts : Starts) (invs : Functions) → Survey
survey_start t inits starts invs =
    surveyed (merged_deep t inits starts || merged_deep t invs no_starts)
    (capped (merged_nodes t inits starts + merged_nodes t invs no_starts))

unfoldable pub survey_whole : (t : List ℕ) (g : Gathered) (takers : List ℕ) → Survey
survey_whole t g takers = survey_from t takers 0 g.edges (survey_start t g.inits g.starts g.invs)
