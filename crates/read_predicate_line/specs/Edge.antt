-- The line `edge=FROM,ACT,TO,P`: the rows that it breaks, in order. They are those of Rows.antt: the law edge_rows.
use Rattle.std.specs.Prelude.{ℕ, Bool, false, not, List, ◌∷◌, length, Result}
use Rattle.std.proofs.Math.Option.{Option, none}
use Rattle.model.specs.Limits.{broken}
use Rattle.line_order.specs.declared.Counts.{Counts}
use Rattle.format.specs.Bytes.{Bytes, bytes}
use Rattle.format.specs.Number.{natural_of}
use Rattle.table_append.specs.Append.{next_place}
use Rattle.table_writes.specs.Sets.{all_variables, rest_of}
use Rattle.read_form.specs.declared.LineRead.{LineRead}
use Rattle.model.specs.declared.Row.{Row}
use Rattle.read_form.specs.Form.{value_after, field_in, misformed}
use Rattle.read_form.specs.Outcome.{said, answered, then_row}
use Rattle.read_edge.specs.Edge.{ends_sound, astray}
use Rattle.read_nodes.specs.Nodes.{codes_of}
use Rattle.read_predicate_line.specs.Predicate.{predicate_fault, counted, line_after}

-- what stands after the key, and its rows, with room for so many nodes and sorts
unfoldable pub value_fault : Counts → (words : List ℕ) (v : Bytes) (room high : ℕ) → Option ℕ
value_fault c words v room high =
    broken 3 (not (ends_sound v))
    (then_row (predicate_fault (field_in 3 v) false c words room high)
    (broken 12 (astray c (natural_of (field_in 0 v)) (natural_of (field_in 1 v)) (natural_of (field_in 2 v)))
    none))

-- the words that it says
unfoldable pub value_words : Bytes → List ℕ
value_words v =
    natural_of (field_in 0 v) ∷ natural_of (field_in 1 v) ∷ natural_of (field_in 2 v) ∷
    counted (codes_of (field_in 3 v))

-- the answer: beside the nodes and the next place, the variables whose new value no node names
abbrev pub edge_told : Option ℕ → (nodes : List ℕ) (at : ℕ) (new : List ℕ) → Result LineRead Row
edge_told o nodes at new = answered o (said (rest_of all_variables nodes) (length nodes) (next_place at (length new)))

-- the answer, and the buffer after it
module _ (c : Counts) (words : List ℕ) (v : Bytes) (room high : ℕ) (at : ℕ) where
  unfoldable pub value_read : Result LineRead Row
  value_read = edge_told (value_fault c words v room high) (codes_of (field_in 3 v)) at (value_words v)

  unfoldable pub after_value : List ℕ
  after_value = line_after (value_fault c words v room high) at (value_words v) words

abbrev pub edge_name : Bytes
edge_name = bytes "edge="

module _ (s : Bytes) (ended : Bool) (c : Counts) (words : List ℕ) (room high : ℕ) where
  unfoldable pub edge_fault : Option ℕ
  edge_fault = broken 2 (misformed edge_name 4 s ended) (value_fault c words (value_after edge_name s) room high)

  unfoldable pub edge_read : (at : ℕ) → Result LineRead Row
  edge_read at =
      edge_told edge_fault (codes_of (field_in 3 (value_after edge_name s))) at (value_words (value_after edge_name s))

  unfoldable pub edge_after : (at : ℕ) → List ℕ
  edge_after at = line_after edge_fault at (value_words (value_after edge_name s)) words
