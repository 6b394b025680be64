-- What the reader of one line answers, by the key that is due, and the buffer after it. It is exactly what `fault` and
-- `entry` say: the law reads_lines.
use Rattle.std.specs.Prelude.{ℕ, Bool, List, Result, Err}
use Rattle.model.specs.declared.Row.{Row}
use Rattle.model.specs.Row.{row}
use Rattle.model.specs.Bounds.{first_format, last_format, max_actions, max_variables}
use Rattle.model.specs.Bounds.{max_automata, max_locations, max_edges}
use Rattle.model.specs.Lines as Lines
use Rattle.line_order.specs.declared.Key.{Key}
use Rattle.line_order.specs.declared.Key.TheVariants.{Format, Actions, Variables, Variable, Automata, Sync}
use Rattle.line_order.specs.declared.Key.TheVariants.{Locations, Init, Inv, Edges, Edge, Compose, End}
use Rattle.line_order.specs.declared.Counts.{Counts}
use Rattle.table_line.specs.Line.{ranges_in}
use Rattle.format.specs.Bytes.{Bytes}
use Rattle.format.specs.Spelling.{spelling}
use Rattle.read_form.specs.declared.LineRead.{LineRead}
use Rattle.read_numbers.specs.Number.{count_in, few_edges}
use Rattle.read_numbers.specs.Range.{bounds_in}
use Rattle.read_number_line.specs.Number.{number_read, number_after, known_owners, bounds_read, bounds_after}
use Rattle.read_composition_line.specs.Sync.{sync_read, sync_after}
use Rattle.read_predicate_line.specs.Predicate.{most_words, location_read, location_after}
use Rattle.read_predicate_line.specs.Edge.{edge_read, edge_after}
use Rattle.read_composition_line.specs.Composition.{compose_read, compose_after}

-- with room for so many nodes and sorts of a predicate
unfoldable pub line_with :
    Bytes → (ended : Bool) → Key → Counts → (words : List ℕ) (at room high : ℕ) → Result LineRead Row
line_with s ended Format c words at room high =
    number_read (count_in (spelling Lines.format) first_format last_format s ended) at
line_with s ended Actions c words at room high =
    number_read (count_in (spelling Lines.actions) 0 max_actions s ended) at
line_with s ended Variables c words at room high =
    number_read (count_in (spelling Lines.variables) 0 max_variables s ended) at
line_with s ended Variable c words at room high =
    bounds_read (bounds_in (spelling Lines.variable) s ended) at
line_with s ended Automata c words at room high =
    number_read
    (known_owners (ranges_in words c.variables) (count_in (spelling Lines.automata) 1 max_automata s ended)) at
line_with s ended Sync c words at room high = sync_read s ended c at
line_with s ended Locations c words at room high =
    number_read (count_in (spelling Lines.locations) 1 max_locations s ended) at
line_with s ended Init c words at room high = location_read (spelling Lines.init) s ended c words room high at
line_with s ended Inv c words at room high = location_read (spelling Lines.inv) s ended c words room high at
line_with s ended Edges c words at room high =
    number_read (few_edges c.edges (count_in (spelling Lines.edges) 0 max_edges s ended)) at
line_with s ended Edge c words at room high = edge_read s ended c words room high at
line_with s ended Compose c words at room high = compose_read s ended c words room high at
line_with s ended End c words at room high = Err (row 2)

unfoldable pub line_with_after : Bytes → (ended : Bool) → Key → Counts → (words : List ℕ) (at room high : ℕ) → List ℕ
line_with_after s ended Format c words at room high =
    number_after (count_in (spelling Lines.format) first_format last_format s ended) at words
line_with_after s ended Actions c words at room high =
    number_after (count_in (spelling Lines.actions) 0 max_actions s ended) at words
line_with_after s ended Variables c words at room high =
    number_after (count_in (spelling Lines.variables) 0 max_variables s ended) at words
line_with_after s ended Variable c words at room high =
    bounds_after (bounds_in (spelling Lines.variable) s ended) at words
line_with_after s ended Automata c words at room high =
    number_after
    (known_owners (ranges_in words c.variables) (count_in (spelling Lines.automata) 1 max_automata s ended)) at words
line_with_after s ended Sync c words at room high = sync_after s ended c words at
line_with_after s ended Locations c words at room high =
    number_after (count_in (spelling Lines.locations) 1 max_locations s ended) at words
line_with_after s ended Init c words at room high = location_after (spelling Lines.init) s ended c words room high at
line_with_after s ended Inv c words at room high = location_after (spelling Lines.inv) s ended c words room high at
line_with_after s ended Edges c words at room high =
    number_after (few_edges c.edges (count_in (spelling Lines.edges) 0 max_edges s ended)) at words
line_with_after s ended Edge c words at room high = edge_after s ended c words room high at
line_with_after s ended Compose c words at room high = compose_after s ended c words room high at
line_with_after s ended End c words at room high = words

-- and for as many as a text can have
unfoldable pub line_read : Bytes → (ended : Bool) → Key → Counts → (words : List ℕ) (at : ℕ) → Result LineRead Row
line_read s ended k c words at = line_with s ended k c words at most_words most_words

unfoldable pub line_after : Bytes → (ended : Bool) → Key → Counts → (words : List ℕ) (at : ℕ) → List ℕ
line_after s ended k c words at = line_with_after s ended k c words at most_words most_words
