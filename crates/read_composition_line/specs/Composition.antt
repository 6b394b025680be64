-- The line `compose=C` as the code reads it. It breaks the rows of `fault` and says what `entry` says: the laws
-- compose_faulty and compose_sound.
use Rattle.std.specs.Prelude.{ℕ, Bool, false, not, List, [], ◌∷◌, ◌++◌, length, take, replicate, Result}
use Rattle.std.specs.Prelude as Std
use Rattle.std.specs.Option.{is_some}
use Rattle.std.proofs.Math.Option.{Option, none}
use Rattle.model.specs.Limits.{broken, is_too_large}
use Rattle.line_order.specs.declared.Counts.{Counts}
use Rattle.line_order.specs.Counts.{capped}
use Rattle.format.specs.Bytes.{Bytes, bytes}
use Rattle.format.specs.Tokens.{tokens, sounds}
use Rattle.read_composition.specs.declared.compose.Composition.{Composition}
use Rattle.read_composition.specs.Lists.{lists_kept}
use Rattle.read_composition.specs.Read.{of_tree, composition_of, memory_of}
use Rattle.read_form.specs.declared.LineRead.{LineRead}
use Rattle.model.specs.declared.Row.{Row}
use Rattle.table_append.specs.Append.{next_place, put}
use Rattle.read_form.specs.Form.{value_after, misformed}
use Rattle.read_form.specs.Outcome.{said, then_row, answered, written}
use Rattle.table_line.specs.Line.{ranges_in}
use Rattle.read_starts.specs.declared.judging.Judged.{Judged}
use Rattle.read_starts.specs.Judged.{judged_all, row_of}
use Rattle.read_starts.specs.Words.{starts_words}

-- the memory for the words of 64 nodes, before any is read
abbrev pub blank : List ℕ
blank = replicate 192 0

-- The tree of N automata that `part` spells, where rows 3 and 5 are not broken.
unfoldable pub tree_in : (N : ℕ) (part : Bytes) → Std.Option Composition
tree_in N part = composition_of N part blank

unfoldable pub tree_fault : (N : ℕ) (part : Bytes) → Option ℕ
tree_fault N part =
    broken 13 (not (is_some (tree_in N part)))
    (broken 14 (not (of_tree (tree_in N part)).ordered)
    (broken 16 (is_too_large (of_tree (tree_in N part)).nodes)
    none))

-- how many nodes, and the words of the nodes
unfoldable pub tree_words : (N : ℕ) (part : Bytes) → List ℕ
tree_words N part = (of_tree (tree_in N part)).nodes ∷ take (of_tree (tree_in N part)).next (memory_of N part blank)

unfoldable pub tree_read : (N : ℕ) (part : Bytes) (at : ℕ) → Result LineRead Row
tree_read N part at = answered (tree_fault N part) (said 0 0 (next_place at (length (tree_words N part))))

unfoldable pub tree_after : (N : ℕ) (part : Bytes) (words : List ℕ) (at : ℕ) → List ℕ
tree_after N part words at = written (tree_fault N part) (put at (tree_words N part) words) words

-- What stands after the key, with room for so many nodes and sorts of a P: rows 6 to 11 of all P, whose variables have
-- the ranges that stand in the table, and then the rows of the tree.
module _ (c : Counts) (words : List ℕ) (part : Bytes) (room high : ℕ) where
  unfoldable pub starts_judged : Judged
  starts_judged = judged_all c.variables (ranges_in words c.variables) c.nodes room high part

  unfoldable pub composed_fault : Option ℕ
  composed_fault = then_row (row_of starts_judged.row) (tree_fault c.automata part)

  -- those of the tree, how many P there are, and their words
  unfoldable pub composed_words : List ℕ
  composed_words = tree_words c.automata part ++ starts_judged.count ∷ starts_words room part

-- the answer to rows and words, and the buffer after it
module _ (o : Option ℕ) (c : Counts) (words : List ℕ) (part : Bytes) (room high at : ℕ) where
  unfoldable pub part_told : Result LineRead Row
  part_told =
      answered o (said 0 (starts_judged c words part room high).nodes
      (next_place at (length (composed_words c words part room high))))

  unfoldable pub part_after : List ℕ
  part_after = written o (put at (composed_words c words part room high) words) words

module _ (c : Counts) (words : List ℕ) (part : Bytes) (room high at : ℕ) where
  unfoldable pub composed_read : Result LineRead Row
  composed_read = part_told (composed_fault c words part room high) c words part room high at

  unfoldable pub composed_after : List ℕ
  composed_after = part_after (composed_fault c words part room high) c words part room high at

-- The whole line.
abbrev pub part_of : Bytes → Bytes
part_of s = value_after (bytes "compose=") s

module _ (s : Bytes) (ended : Bool) (c : Counts) (words : List ℕ) (room high : ℕ) where
  unfoldable pub compose_fault : Option ℕ
  compose_fault =
      broken 2 (misformed (bytes "compose=") 0 s ended)
      (broken 3 (not (sounds [] (tokens (part_of s))))
      (broken 5 (not (lists_kept (capped c.actions) false (tokens (part_of s))))
      (composed_fault c words (part_of s) room high)))

  unfoldable pub compose_read : (at : ℕ) → Result LineRead Row
  compose_read at = part_told compose_fault c words (part_of s) room high at

  unfoldable pub compose_after : (at : ℕ) → List ℕ
  compose_after at = part_after compose_fault c words (part_of s) room high at
