-- What the writer writes for a table's words, on any words; past the end it reads 0. On a model's words this is the
-- model's text: the law sheet_text_lem.
use Rattle.std.specs.Prelude.{ℕ, zero, suc, ◌+◌, true, false, List, [], ◌∷◌, ◌++◌, get_or, take, drop}
use Rattle.model.specs.Bounds.{table_words}
use Rattle.model.specs.Lines.{format, actions, variables, variable, automata, sync, locations, init, inv, edges}
use Rattle.model.specs.Lines.{edge, compose}
use Rattle.model.specs.Table.{unbiased, owner_from}
use Rattle.format.specs.Bytes.{Bytes, joined, LF, space, comma}
use Rattle.format.specs.Number.{decimal, signed}
use Rattle.format.specs.Spelling.{spelling, writes_key, owner_key, text_of_owner}
use Rattle.line_order.specs.declared.Key.{Key}
use Rattle.line_order.specs.declared.Key.TheVariants.{Format, Actions, Variables, Variable, Automata, Sync}
use Rattle.line_order.specs.declared.Key.TheVariants.{Locations, Init, Inv, Edges, Edge, Compose, End}
use Rattle.line_order.specs.declared.Due.{Due}
use Rattle.line_order.specs.Due.{is_end, is_listed, is_owned, due_first, due_after}
use Rattle.table_places.specs.Starts.{starts_at, first_start}
use Rattle.table_writes.specs.Sets.{written_set}
use Rattle.write_words.specs.declared.growing.Part.{Part}
use Rattle.write_words.specs.Growing.{part}
use Rattle.write_words.specs.NodeText.{predicate_text, members_text, set_text, node_texts}

-- The values of lines.
unfoldable pub range_text : List ℕ → Bytes
range_text ws = signed (unbiased (get_or ws 0 0)) ++ (comma ∷ signed (unbiased (get_or ws 1 0)))

-- a number and a comma
unfoldable pub field_text : ℕ → Bytes
field_text n = decimal n ++ (comma ∷ [])

unfoldable pub edge_text : List ℕ → Bytes
edge_text ws =
    field_text (get_or ws 0 0) ++ field_text (get_or ws 1 0) ++ field_text (get_or ws 2 0) ++ predicate_text (drop 3 ws)

-- the P's of the tree: they stand behind its nodes, after their number
unfoldable pub starts_behind : List ℕ → List ℕ
starts_behind ws = drop (first_start ws (starts_at ws 0)) ws

unfoldable pub tree_text : List ℕ → Bytes
tree_text ws = joined space (node_texts (get_or ws 0 0) (drop 1 ws) (starts_behind ws))

unfoldable pub value_of : Key → List ℕ → Bytes
value_of Format ws = decimal (get_or ws 0 0)
value_of Actions ws = decimal (get_or ws 0 0)
value_of Variables ws = decimal (get_or ws 0 0)
value_of Variable ws = range_text ws
value_of Automata ws = decimal (get_or ws 0 0)
value_of Sync ws = set_text (get_or ws 0 0) (get_or ws 1 0)
value_of Locations ws = decimal (get_or ws 0 0)
value_of Init ws = predicate_text ws
value_of Inv ws = predicate_text ws
value_of Edges ws = decimal (get_or ws 0 0)
value_of Edge ws = edge_text ws
value_of Compose ws = tree_text ws
value_of End ws = []

unfoldable pub key_text : Key → Bytes
key_text Format = spelling format
key_text Actions = spelling actions
key_text Variables = spelling variables
key_text Variable = spelling variable
key_text Automata = spelling automata
key_text Sync = spelling sync
key_text Locations = spelling locations
key_text Init = spelling init
key_text Inv = spelling inv
key_text Edges = spelling edges
key_text Edge = spelling edge
key_text Compose = spelling compose
key_text End = []

-- Where a key stands among all keys in one row; that part of it is its text (the law key_part_lem).
unfoldable pub key_part : Key → Part
key_part Format = part 0 7
key_part Actions = part 7 15
key_part Variables = part 15 25
key_part Variable = part 25 34
key_part Automata = part 34 43
key_part Sync = part 43 48
key_part Locations = part 48 58
key_part Init = part 58 63
key_part Inv = part 63 67
key_part Edges = part 67 73
key_part Edge = part 73 78
key_part Compose = part 78 86
key_part End = part 86 86

-- A line, and how many words it has; after the composition no line follows, so its size is not asked for.
unfoldable pub line_of : Key → List ℕ → Bytes
line_of key ws = key_text key ++ value_of key ws ++ (LF ∷ [])

unfoldable pub size_of : Key → List ℕ → ℕ
size_of Format ws = 1
size_of Actions ws = 1
size_of Variables ws = 1
size_of Variable ws = 3
size_of Automata ws = 1
size_of Sync ws = 2
size_of Locations ws = 1
size_of Init ws = 1 + get_or ws 0 0
size_of Inv ws = 1 + get_or ws 0 0
size_of Edges ws = 1
size_of Edge ws = 4 + get_or ws 3 0
size_of Compose ws = 0
size_of End ws = 0

-- The list behind an edge, from the first format with lists on: the variables whose new value its nodes name.
unfoldable pub writes_text : List ℕ → Bytes
writes_text ws = writes_key ++ members_text (written_set (take (get_or ws 3 0) (drop 4 ws))) ++ (LF ∷ [])

-- The owner behind a variable, from the first format with owners on: its third word.
unfoldable pub owner_text : List ℕ → Bytes
owner_text ws = owner_key ++ text_of_owner (owner_from (get_or ws 2 0)) ++ (LF ∷ [])

unfoldable pub behind_of : Due → List ℕ → Bytes
behind_of d ws =
    elim (is_owned d) [
      | true ↦ owner_text ws
      | false ↦ elim (is_listed d) [ true ↦ writes_text ws | false ↦ [] ]
    ]

-- the line that is due, and the line behind it
unfoldable pub entry_of : Due → List ℕ → Bytes
entry_of d ws = line_of d.key ws ++ behind_of d ws

-- The entries from one that is due on; the fuel bounds the rounds, of which the last only finds the end.
unfoldable pub lines_from : (fuel : ℕ) → Due → List ℕ → Bytes
lines_from zero d ws = []
lines_from (suc n) d ws =
    elim (is_end d.key) [
      | true ↦ []
      | false ↦ entry_of d ws ++ lines_from n (due_after d (get_or ws 0 0)) (drop (size_of d.key ws) ws)
    ]

-- each entry takes a word at least, so the fuel is enough for a table
unfoldable pub sheet_text : List ℕ → Bytes
sheet_text ws = lines_from (table_words + 1) due_first ws
