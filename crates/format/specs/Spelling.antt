-- The one spelling of a model: `text_of`.
use Rattle.std.specs.Prelude.{ℕ, true, false, leb}
use mathlib.Core.List.{List, [], ◌∷◌, ◌++◌, map, flat_map}
use Rattle.std.proofs.Math.Option.{Option, none, some}
use Rattle.model.specs.Bounds.{writes_format, owners_format}
use Rattle.model.specs.Predicate.{Pred, Word, words, all_of, any_of, not_word, imp_word, eq_word, le_word}
use Rattle.model.specs.Predicate.{num_word}
use Rattle.model.specs.Predicate.{old_word, new_word, add_word, sub_word, mul_word, if_word, stray, written}
use Rattle.model.specs.Composition.{Tree, Node, nodes, par_node, syn_node, ini_node, leaf_node, stray_node}
use Rattle.model.specs.Model.{Model}
use Rattle.model.specs.Lines.{Key, Entry, format, actions, variables, variable, automata, sync, locations, init, inv}
use Rattle.model.specs.Lines.{edges, edge, compose, format_line, actions_line, variables_line, variable_line}
use Rattle.model.specs.Lines.{automata_line}
use Rattle.model.specs.Lines.{sync_line, locations_line, init_line, inv_line, edges_line, edge_line, compose_line}
use Rattle.model.specs.Lines.{key_of}
use Rattle.model.specs.Lines.{lines}
use Rattle.format.specs.Bytes.{Bytes, bytes, joined, LF, space, comma, 'a, 'n, 'v}
use Rattle.format.specs.Number.{decimal, signed}

-- a key's bytes, the equals sign with them
unfoldable pub spelling : Key → Bytes
spelling format = bytes "format="
spelling actions = bytes "actions="
spelling variables = bytes "variables="
spelling variable = bytes "variable="
spelling automata = bytes "automata="
spelling sync = bytes "sync="
spelling locations = bytes "locations="
spelling init = bytes "init="
spelling inv = bytes "inv="
spelling edges = bytes "edges="
spelling edge = bytes "edge="
spelling compose = bytes "compose="

-- the keys of the lines behind another: what the edge before it writes (request (f)), and who owns the variable before
-- it (request (k))
unfoldable pub writes_key : Bytes
writes_key = bytes "writes="

unfoldable pub owner_key : Bytes
owner_key = bytes "owner="

-- nobody
unfoldable pub none_word : Bytes
none_word = bytes "none"

-- the tokens of a word
unfoldable pub spelled : Word → List Bytes
spelled (all_of k) = bytes "all" ∷ decimal k ∷ []
spelled (any_of k) = bytes "any" ∷ decimal k ∷ []
spelled not_word = bytes "not" ∷ []
spelled imp_word = bytes "imp" ∷ []
spelled eq_word = bytes "eq" ∷ []
spelled le_word = bytes "le" ∷ []
spelled (num_word z) = signed z ∷ []
spelled (old_word k) = ('v ∷ decimal k) ∷ []
spelled (new_word k) = ('n ∷ decimal k) ∷ []
spelled add_word = bytes "add" ∷ []
spelled sub_word = bytes "sub" ∷ []
spelled mul_word = bytes "mul" ∷ []
spelled if_word = bytes "if" ∷ []
spelled stray = []

unfoldable pub text_of_pred : Pred → Bytes
text_of_pred p = joined space (flat_map spelled (words p))

unfoldable pub text_of_list : List ℕ → Bytes
text_of_list list = joined comma (map decimal list)

unfoldable pub text_of_owner : Option ℕ → Bytes
text_of_owner none = none_word
text_of_owner (some k) = decimal k

unfoldable pub spelled_node : Node → List Bytes
spelled_node par_node = bytes "par" ∷ []
spelled_node (syn_node list) = bytes "syn" ∷ text_of_list list ∷ []
spelled_node (ini_node p) = bytes "ini" ∷ flat_map spelled (words p)
spelled_node (leaf_node k) = ('a ∷ decimal k) ∷ []
spelled_node stray_node = []

unfoldable pub text_of_tree : Tree → Bytes
text_of_tree c = joined space (flat_map spelled_node (nodes c))

unfoldable pub value_text : Entry → Bytes
value_text (format_line n) = decimal n
value_text (actions_line n) = decimal n
value_text (variables_line n) = decimal n
value_text (variable_line x o) = joined comma (signed x.low ∷ signed x.high ∷ [])
value_text (automata_line n) = decimal n
value_text (sync_line list) = text_of_list list
value_text (locations_line n) = decimal n
value_text (init_line p) = text_of_pred p
value_text (inv_line p) = text_of_pred p
value_text (edges_line n) = decimal n
value_text (edge_line e) =
    joined comma (decimal e.from ∷ decimal e.action ∷ decimal e.to ∷ text_of_pred e.update ∷ [])
value_text (compose_line c) = text_of_tree c

-- a line: key, equals sign, value, LF
unfoldable pub line_text : Entry → Bytes
line_text e = spelling (key_of e) ++ (value_text e ++ LF ∷ [])

-- What stands on a line of its own behind an entry's: from format 3 on the owner of a variable, and from format 2 on
-- the list of the variables whose new value an edge mentions.
pub data Behind : Type 0 where
  nothing owner : Behind
  list : List ℕ → Behind

unfoldable pub behind : (format : ℕ) → Entry → Behind
behind f (format_line n) = nothing
behind f (actions_line n) = nothing
behind f (variables_line n) = nothing
behind f (variable_line x o) = elim (leb owners_format f) [ true ↦ owner | false ↦ nothing ]
behind f (automata_line n) = nothing
behind f (sync_line l) = nothing
behind f (locations_line n) = nothing
behind f (init_line p) = nothing
behind f (inv_line p) = nothing
behind f (edges_line n) = nothing
behind f (edge_line e) = elim (leb writes_format f) [ true ↦ list (written e.update) | false ↦ nothing ]
behind f (compose_line c) = nothing

-- the owner that an entry says
unfoldable pub owner_said : Entry → Option ℕ
owner_said (format_line n) = none
owner_said (actions_line n) = none
owner_said (variables_line n) = none
owner_said (variable_line x o) = o
owner_said (automata_line n) = none
owner_said (sync_line l) = none
owner_said (locations_line n) = none
owner_said (init_line p) = none
owner_said (inv_line p) = none
owner_said (edges_line n) = none
owner_said (edge_line e) = none
owner_said (compose_line c) = none

unfoldable pub behind_text : Behind → Entry → Bytes
behind_text nothing e = []
behind_text owner e = owner_key ++ (text_of_owner (owner_said e) ++ LF ∷ [])
behind_text (list l) e = writes_key ++ (text_of_list l ++ LF ∷ [])

-- an entry: its line, and the line behind it, if it has one
unfoldable pub entry_text : (format : ℕ) → Entry → Bytes
entry_text f e = line_text e ++ behind_text (behind f e) e

unfoldable pub text_of : Model → Bytes
text_of m = flat_map (entry_text m.format) (lines m)
