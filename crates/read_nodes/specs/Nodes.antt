-- What `read` answers of the bytes of a P, and what it leaves in the lent memory. With a place for every two bytes, of
-- any number of bytes, it is what the text's rows say: the law read_exact.
use Rattle.std.specs.Prelude.{ℕ, ◌+◌, Bool, true, false, not, ◌&&◌, List, [], map, length, leb}
use Rattle.std.proofs.Math.Option.{Option, none, some}
use Rattle.model.specs.Basic.{lacks}
use Rattle.model.specs.Bounds.{max_nodes}
use Rattle.model.specs.Predicate.{names_outside, names_new}
use Rattle.model.specs.Parse.{read_pred}
use Rattle.model.specs.Limits.{broken}
use Rattle.model.specs.Row.{row}
use Rattle.model.specs.Table.{word_of}
use Rattle.table_predicate.specs.declared.Stopped.{Stopped}
use Rattle.table_predicate.specs.declared.Stopped.TheVariants as S
use Rattle.table_predicate.specs.declared.Walked.{Walked}
use Rattle.table_predicate.specs.declared.Ended.{Ended}
use Rattle.table_predicate.specs.Walk.{walk_at}
use Rattle.format.specs.Bytes.{Bytes}
use Rattle.format.specs.Tokens.{tokens, sounds}
use Rattle.read_words.specs.declared.reading.Due.TheVariants.{Word}
use Rattle.read_words.specs.declared.reading.WordsError.{WordsError}
use Rattle.read_words.specs.declared.reading.WordsError.TheVariants as W
use Rattle.read_words.specs.Read.{codes, answer, written}
use Rattle.read_nodes.specs.declared.NodesError.{NodesError}
use Rattle.read_nodes.specs.declared.NodesError.TheVariants as E
use Rattle.std.specs.Prelude.{Result, Ok, Err}

-- a row that is broken; and what the words break, where they were not all read
abbrev pub broken_row : ℕ → Result ℕ NodesError
broken_row r = Err (E.Row (row r))

abbrev pub nodes_error : WordsError → NodesError
nodes_error W.Stray = E.Row (row 6)
nodes_error W.Full = E.Full

-- so many nodes, if no row is broken
unfoldable pub told : (nodes : ℕ) → Option ℕ → Result ℕ NodesError
told nodes none = Ok nodes
told nodes (some r) = broken_row r

-- the row of why a walk ended, by itself: what is no predicate is row 6
abbrev pub walk_row : Stopped → ℕ
walk_row S.Deep = 9
walk_row S.Stray = 6

abbrev pub walk_error : Stopped → NodesError
walk_error s = E.Row (row (walk_row s))

unfoldable pub is_deep : Stopped → Bool
is_deep S.Deep = true
is_deep S.Stray = false

-- rows 10 and 11 of so many nodes, by how far the walk came
unfoldable pub span_fault : (before nodes : ℕ) → Walked → Option ℕ
span_fault before nodes w = broken 10 w.leaves (broken 11 (not (leb (before + nodes) max_nodes)) none)

-- rows 9 to 11 by what the walk came to, where it ended too
unfoldable pub walk_fault : (before nodes : ℕ) → Result Walked Ended → Option ℕ
walk_fault before nodes (Ok w) = span_fault before nodes w
walk_fault before nodes (Err e) = broken 9 (is_deep e.why) (span_fault before nodes e.walk)

-- rows 9 to 11 of node words, by the words of the ranges and the nodes before these
unfoldable pub extent_fault : (ranges : List ℕ) (before : ℕ) (nodes : List ℕ) → Option ℕ
extent_fault ranges before nodes = walk_fault before (length nodes) (walk_at nodes ranges 0)

module _ (old_only : Bool) (variables : ℕ) (ranges : List ℕ) (before : ℕ) where
  -- rows 6 to 11
  unfoldable pub nodes_fault : (nodes : List ℕ) → Option ℕ
  nodes_fault nodes =
      broken 6 (lacks (read_pred (map word_of nodes)))
      (broken 7 (names_outside variables (map word_of nodes))
      (broken 8 (old_only && names_new (map word_of nodes))
      (extent_fault ranges before nodes)))

  -- with room for so many sorts
  unfoldable pub judged_in : (high : ℕ) (nodes : List ℕ) → Result ℕ NodesError
  judged_in high nodes =
      elim (leb (length nodes) high) [ true ↦ told (length nodes) (nodes_fault nodes) | false ↦ Err E.Full ]

  -- by what reading the words came to, of which these are the codes
  unfoldable pub on_words : (high : ℕ) (nodes : List ℕ) → Result ℕ WordsError → Result ℕ NodesError
  on_words high nodes (Ok n) = judged_in high nodes
  on_words high nodes (Err W.Stray) = broken_row 6
  on_words high nodes (Err W.Full) = Err E.Full

-- the codes of the words that the bytes spell
unfoldable pub codes_of : Bytes → List ℕ
codes_of part = codes Word (tokens part)

-- with room for so many nodes, and for so many sorts
unfoldable pub nodes_read :
    (part : Bytes) (old_only : Bool) (variables : ℕ) (ranges : List ℕ) (before room high : ℕ) → Result ℕ NodesError
nodes_read part old_only variables ranges before room high =
    elim (sounds [] (tokens part)) [
      | true ↦ on_words old_only variables ranges before high (codes_of part) (answer (codes_of part) room)
      | false ↦ broken_row 3
    ]

-- the lent memory for the nodes: as it was where row 3 is broken, or with the codes up to the first stray one in front
unfoldable pub nodes_after : (part : Bytes) (old : List ℕ) → List ℕ
nodes_after part old = elim (sounds [] (tokens part)) [ true ↦ written (codes_of part) old | false ↦ old ]
