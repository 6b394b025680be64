-- The words of the whole merged sheet, from what was gathered.
use Rattle.std.specs.Prelude.{List, [], ◌∷◌, ◌++◌, ℕ}
use Rattle.table_places.specs.declared.layout.Layout.{Layout}
use Rattle.merge_predicates.specs.declared.functions.Functions.{Functions}
use Rattle.merge_predicates.specs.declared.starts.Starts.{Starts}
use Rattle.merge_predicates.specs.Starts.{no_starts}
use Rattle.merge_predicates.specs.Clauses.{merged_words}
use Rattle.merge_edges.specs.Edges.{edges_from}
use Rattle.merge_words.specs.declared.gathering.Gathered.{Gathered}
use Rattle.merge_words.specs.Head.{head_words}
use Rattle.merge_words.specs.Sync.{words_of}

-- one location, with its init and its inv
unfoldable pub location_words : (t : List ℕ) (x : Layout) (inits : Functions) (starts : Starts) (invs : Functions)
    → List ℕ
location_words t x inits starts invs = 1 ∷ (merged_words t x inits starts ++ merged_words t x invs no_starts)

module _ (t : List ℕ) (g : Gathered) (takers : List ℕ) where
  -- the set, the location, so many edges, and the edges
  unfoldable pub automaton_words : List ℕ
  automaton_words =
      words_of g.sets ++ (location_words t g.wildcards g.inits g.starts g.invs ++
      (g.edges ∷ edges_from t g.wildcards.variables takers 0 g.edges))

  -- the head, the automaton, and a tree of one leaf with no start conditions
  unfoldable pub merged_sheet : List ℕ
  merged_sheet = head_words t g.wildcards ++ (automaton_words ++ (1 ∷ 2 ∷ 0 ∷ []))
