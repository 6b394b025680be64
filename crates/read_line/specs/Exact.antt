-- What the reader of one line is to say: exactly the row that `fault` gives, or what the line says, with its words put
-- into the buffer.
use Rattle.std.specs.Prelude.{ℕ, ◌≤◌, ◌≡◌, Bool, List, map, length, Result, Ok, Err}
use Rattle.std.proofs.Math.Option.{none, some}
use Rattle.model.specs.Bounds.{max_bytes}
use Rattle.model.specs.Predicate.{words}
use Rattle.model.specs.Lines.{Key as LineKey, Entry, format_line, actions_line, variables_line, variable_line}
use Rattle.model.specs.Lines.{automata_line}
use Rattle.model.specs.Lines.{sync_line, locations_line, init_line, inv_line, edges_line, edge_line, compose_line}
use Rattle.model.specs.Lines.{Reading}
use Rattle.model.specs.Table.{code, line_words}
use Rattle.table_writes.specs.Sets.{all_variables, rest_of}
use Rattle.line_order.specs.declared.Key.{Key}
use Rattle.line_order.specs.declared.Counts.{Counts}
use Rattle.line_order.specs.Due.{code_of}
use Rattle.line_order.specs.Counts.{nodes_of, Counted}
use Rattle.table_line.specs.Exact.{Declared}
use Rattle.format.specs.Bytes.{Bytes}
use Rattle.format.specs.Rows.{fault, entry}
use Rattle.read_form.specs.declared.LineRead.{LineRead}
use Rattle.read_form.specs.Outcome.{said}
use Rattle.model.specs.declared.Row.{Row}
use Rattle.model.specs.Row as Row
use Rattle.table_append.specs.Append.{next_place, put}
use Rattle.read_form.specs.Form.{line_of}

-- The number that is told of a line: that of a line that counts, or of the format's; of an edge, the set of the
-- variables whose new value it does not mention.
unfoldable pub number_told : Entry → ℕ
number_told (format_line n) = n
number_told (actions_line n) = n
number_told (variables_line n) = n
number_told (variable_line x o) = 0
number_told (automata_line n) = n
number_told (sync_line list) = 0
number_told (locations_line n) = n
number_told (init_line p) = 0
number_told (inv_line p) = 0
number_told (edges_line n) = n
number_told (edge_line e) = rest_of all_variables (map code (words e.update))
number_told (compose_line c) = 0

-- `read` answers for a line's bytes, whether an LF ended it, the key that is due, what was counted, the buffer and the
-- place of its next word; `after` is the buffer then
pub record ReadsLines
    (read : Bytes → Bool → Key → Counts → List ℕ → ℕ → Result LineRead Row)
    (after : Bytes → Bool → Key → Counts → List ℕ → ℕ → List ℕ) : Type 0 where
  pub faulty : (r : Reading) (c : Counts) (words : List ℕ) (at : ℕ) (k : LineKey) (s : Bytes) (ended : Bool) (row : ℕ)
      → Counted r c → Declared words r → length s ≤ max_bytes → fault r k (line_of s ended) ≡ some row
      → read s ended (code_of k) c words at ≡ Err (Row.row row)
  pub sound : (r : Reading) (c : Counts) (words : List ℕ) (at : ℕ) (k : LineKey) (s : Bytes) (ended : Bool)
      → Counted r c → Declared words r → length s ≤ max_bytes → fault r k (line_of s ended) ≡ none
      → (read s ended (code_of k) c words at ≡
      Ok (said (number_told (entry k (line_of s ended))) (nodes_of (entry k (line_of s ended)))
      (next_place at (length (line_words (entry k (line_of s ended)))))))
      × (after s ended (code_of k) c words at ≡ put at (line_words (entry k (line_of s ended))) words)
