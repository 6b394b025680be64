-- A sheet's words with each automaton's edges once, over the words of a table. On the words of a model they are those
-- of `distinct`: the law distinct_words_are of crate `merge_table`.
use Rattle.std.specs.Prelude.{Bool, true, false, List, [], ◌∷◌, ◌++◌, ℕ, zero, suc, ◌+◌, ◌-◌, length, get_or, eqb}
use Rattle.table_places.specs.declared.layout.Layout.{Layout}
use Rattle.table_places.specs.Outline.{first_automaton}
use Rattle.table_places.specs.Layout.{automata_of}
use Rattle.table_places.specs.Starts.{starts_at, start_count, first_start, start_at}
use Rattle.merge_append.specs.Runs.{run}
use Rattle.merge_distinct.specs.Equality.{edge_length}
use Rattle.merge_distinct.specs.Firsts.{edges_of, first_ones}

module _ (t : List ℕ) where
  -- an edge of n automata, from automaton i on, stands twice; `places` says where their counts of edges stand
  unfoldable pub repeats_from : (places : List ℕ) (i n : ℕ) → Bool
  repeats_from places i zero = false
  repeats_from places i (suc n) =
      elim (eqb (length (first_ones t (get_or places i 0))) (edges_of t (get_or places i 0))) [
        | true ↦ repeats_from places (i + 1) n
        | false ↦ true
      ]

  unfoldable pub repeats_in : (x : Layout) → Bool
  repeats_in x = repeats_from x.edges 0 (automata_of x)

  -- the words from one place up to another
  unfoldable pub part : (from to : ℕ) → List ℕ
  part from to = run t from (to - from)

  -- the edges at some places
  unfoldable pub edge_words : (places : List ℕ) → List ℕ
  edge_words [] = []
  edge_words (p ∷ ps) = run t p (edge_length t p) ++ edge_words ps

  -- the automaton whose set stands at one place, and whose count of edges at another
  unfoldable pub automaton_words : (set edges : ℕ) → List ℕ
  automaton_words set edges = part set edges ++ length (first_ones t edges) ∷ edge_words (first_ones t edges)

  -- n automata, from automaton i on
  unfoldable pub automata_words : (sets places : List ℕ) (i n : ℕ) → List ℕ
  automata_words sets places i zero = []
  automata_words sets places i (suc n) =
      automaton_words (get_or sets i 0) (get_or places i 0) ++ automata_words sets places (i + 1) n

  -- where the tree's words end: after its start conditions
  unfoldable pub tree_end : (x : Layout) → ℕ
  tree_end x =
      let at = starts_at t x.tree in
      start_at t (first_start t at) (start_count t at)

  -- the whole sheet
  unfoldable pub distinct_words : (x : Layout) → List ℕ
  distinct_words x =
      part 0 (first_automaton t) ++
      (automata_words x.sets x.edges 0 (automata_of x) ++ part x.tree (tree_end x))
