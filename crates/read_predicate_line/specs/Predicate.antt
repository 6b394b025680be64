-- A predicate by the table so far, and the lines `init=P` and `inv=P`: the rows that they break, in order. Where the
-- text has at most 65,536 bytes these are the rows of Rows.antt: the laws predicate_rows and location_rows.
use Rattle.std.specs.Prelude.{ℕ, Bool, true, List, ◌∷◌, length, Result, Ok, Err}
use Rattle.std.proofs.Math.Option.{Option, none, some}
use Rattle.model.specs.Limits.{broken}
use Rattle.line_order.specs.declared.Counts.{Counts}
use Rattle.table_line.specs.Line.{ranges_in}
use Rattle.format.specs.Bytes.{Bytes}
use Rattle.model.specs.declared.Row.{Row}
use Rattle.model.specs.Row.{row}
use Rattle.read_nodes.specs.declared.NodesError.{NodesError}
use Rattle.read_nodes.specs.declared.NodesError.TheVariants as E
use Rattle.read_nodes.specs.Nodes.{codes_of, nodes_read}
use Rattle.read_form.specs.declared.LineRead.{LineRead}
use Rattle.table_append.specs.Append.{next_place, put}
use Rattle.read_form.specs.Form.{value_after, misformed}
use Rattle.read_form.specs.Outcome.{said, answered, written}

-- no text has room for more words
abbrev pub most_words : ℕ
most_words = 32768

-- what is read of the bytes, with room for so many nodes and sorts; the ranges stand in the table
unfoldable pub predicate_read :
    (part : Bytes) (old_only : Bool) → Counts → (words : List ℕ) (room high : ℕ) → Result ℕ NodesError
predicate_read part old_only c words room high =
    nodes_read part old_only c.variables (ranges_in words c.variables) c.nodes room high

-- and the row that it breaks; where there is no room, it has more words than a text can have
unfoldable pub row_in : Result ℕ NodesError → Option ℕ
row_in (Ok n) = none
row_in (Err (E.Row r)) = some r.0
row_in (Err E.Full) = some 6

-- so many nodes, or that row
unfoldable pub by_row : Result ℕ NodesError → Result ℕ Row
by_row (Ok n) = Ok n
by_row (Err (E.Row r)) = Err r
by_row (Err E.Full) = Err (row 6)

unfoldable pub predicate_fault : (part : Bytes) (old_only : Bool) → Counts → (words : List ℕ) (room high : ℕ) → Option ℕ
predicate_fault part old_only c words room high = row_in (predicate_read part old_only c words room high)

-- a line with a predicate: the answer, and the buffer after it
abbrev pub line_told : Option ℕ → (nodes at : ℕ) (new : List ℕ) → Result LineRead Row
line_told o nodes at new = answered o (said 0 nodes (next_place at (length new)))

abbrev pub line_after : Option ℕ → (at : ℕ) (new words : List ℕ) → List ℕ
line_after o at new words = written o (put at new words) words

-- the count of the nodes, and the nodes
abbrev pub counted : List ℕ → List ℕ
counted nodes = length nodes ∷ nodes

-- the value of a location's line: the answer, and the buffer after it
module _ (c : Counts) (words : List ℕ) (v : Bytes) (room high : ℕ) (at : ℕ) where
  unfoldable pub located_read : Result LineRead Row
  located_read = line_told (predicate_fault v true c words room high) (length (codes_of v)) at (counted (codes_of v))

  unfoldable pub located_after : List ℕ
  located_after = line_after (predicate_fault v true c words room high) at (counted (codes_of v)) words

-- init and inv, by the bytes of the key
module _ (name s : Bytes) (ended : Bool) (c : Counts) (words : List ℕ) (room high : ℕ) where
  unfoldable pub location_fault : Option ℕ
  location_fault = broken 2 (misformed name 1 s ended) (predicate_fault (value_after name s) true c words room high)

  unfoldable pub location_read : (at : ℕ) → Result LineRead Row
  location_read at =
      line_told location_fault (length (codes_of (value_after name s))) at (counted (codes_of (value_after name s)))

  unfoldable pub location_after : (at : ℕ) → List ℕ
  location_after at = line_after location_fault at (counted (codes_of (value_after name s))) words
