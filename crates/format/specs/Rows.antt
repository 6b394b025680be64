-- "Refused", rows 2 to 16 and 50 as a line of the text breaks them: `true` is broken. A row decides only where no
-- smaller row is broken, so it may take for granted that none is: what it says of other lines plays no part.
use Rattle.std.specs.Prelude.{ℕ, Bool, true, false, not, ◌&&◌, ◌||◌, length, get_or, drop, pos, eqb, leb}
use mathlib.Core.List.{List, [], ◌∷◌, map, flat_map}
use Rattle.std.proofs.Math.Option.{Option, none}
use Rattle.model.specs.Basic.{every, exists, lacks, or_else}
use Rattle.model.specs.Bounds.{first_format, last_format, max_actions, max_variables, max_automata, max_locations}
use Rattle.model.specs.Bounds.{max_edges}
use Rattle.model.specs.Bounds.{last_location, least_number, greatest_number}
use Rattle.model.specs.Predicate as P
use Rattle.model.specs.Predicate.{Pred, Range, range, Word, words, all, names_outside, names_new}
use Rattle.model.specs.Composition.{Tree, Node, leaf}
use Rattle.model.specs.Parse.{read_pred, read_tree, with_starts}
use Rattle.model.specs.Lines.{Key, Entry, format, actions, variables, variable, automata, sync, locations, init, inv}
use Rattle.model.specs.Lines.{edges, edge, compose, format_line, actions_line, variables_line, variable_line}
use Rattle.model.specs.Lines.{automata_line}
use Rattle.model.specs.Lines.{sync_line, locations_line, init_line, inv_line, edges_line, edge_line, compose_line}
use Rattle.model.specs.Lines.{Reading}
use Rattle.model.specs.Limits.{rises, is_crossed, is_too_deep, exceeds_span, passes_nodes, is_astray, is_disordered}
use Rattle.model.specs.Limits.{is_too_large, passes_edges, is_beyond, variable_count, broken}
use Rattle.format.specs.Bytes.{Bytes, begins, parts, comma}
use Rattle.format.specs.Number.{within, natural_of, integer_of}
use Rattle.format.specs.Tokens.{tokens, sounds, lists_sound, read_words, read_nodes, starts_in, outside}
use Rattle.format.specs.Spelling.{spelling}

-- the bytes of a line without its LF, and whether it has one
pub record Line : Type 0 where
  pub bytes : Bytes
  pub ended : Bool

-- which key it is
unfoldable pub place : Key → ℕ
place format = 0
place actions = 1
place variables = 2
place variable = 3
place automata = 4
place sync = 5
place locations = 6
place init = 7
place inv = 8
place edges = 9
place edge = 10
place compose = 11

unfoldable pub is : Key → Key → Bool
is j k = eqb (place j) (place k)

-- the value: what stands after `key=`
unfoldable pub value_of : Key → Line → Bytes
value_of k l = drop (length (spelling k)) l.bytes

-- commas part the fields, but not in a list or in `compose=`
unfoldable pub fields : Key → Line → List Bytes
fields k l = elim (is k sync || is k compose) [ true ↦ value_of k l ∷ [] | false ↦ parts comma (value_of k l) ]

unfoldable pub field_count : Key → ℕ
field_count k = elim (is k variable) [ true ↦ 2 | false ↦ elim (is k edge) [ true ↦ 4 | false ↦ 1 ] ]

unfoldable pub field : ℕ → Key → Line → Bytes
field i k l = get_or (fields k l) i []

-- P stands in `init=P`, `inv=P` and `edge=FROM,ACT,TO,P`
unfoldable pub has_pred : Key → Bool
has_pred k = is k init || (is k inv || is k edge)

unfoldable pub pred_tokens : Key → Line → List Bytes
pred_tokens k l = elim (is k edge) [ true ↦ tokens (field 3 k l) | false ↦ tokens (field 0 k l) ]

unfoldable pub words_in : Key → Line → List Word
words_in k l = read_words (pred_tokens k l)

unfoldable pub pred_of : Key → Line → Option Pred
pred_of k l = read_pred (words_in k l)

-- the predicate, where row 6 does not hold
unfoldable pub the_pred : Key → Line → Pred
the_pred k l = or_else (all P.none) (pred_of k l)

-- the tokens of `compose=C`; the P after each `ini`, well-formed or not, and the predicates where row 6 does not hold
unfoldable pub tree_tokens : Line → List Bytes
tree_tokens l = tokens (value_of compose l)

unfoldable pub starts_of : Line → List (Option Pred)
starts_of l = map (λ ts. read_pred (read_words ts)) (starts_in 0 [] (tree_tokens l))

unfoldable pub the_starts : Line → List Pred
the_starts l = map (or_else (all P.none)) (starts_of l)

-- the tree, whose nodes are read apart from the P's, and get these
unfoldable pub nodes_in : Line → List Node
nodes_in l = with_starts (the_starts l) (read_nodes (outside 0 [] (tree_tokens l)))

unfoldable pub tree_of : Line → Option Tree
tree_of l = read_tree (nodes_in l)

-- where row 13 does not hold
unfoldable pub the_tree : Line → Tree
the_tree l = or_else (leaf 0) (tree_of l)

-- the list of `sync=`, perhaps empty
unfoldable pub list_items : Bytes → List Bytes
list_items [] = []
list_items (b ∷ t) = parts comma (b ∷ t)

unfoldable pub sync_list : Line → List ℕ
sync_list l = map natural_of (list_items (field 0 sync l))

unfoldable pub the_range : Line → Range
the_range l = range (integer_of (field 0 variable l)) (integer_of (field 1 variable l))

-- Row 2: is this the line that is due, with its fields, in printable bytes, up to an LF?
unfoldable pub printable : ℕ → Bool
printable b = leb 32 b && leb b 126

unfoldable pub row2 : Key → Line → Bool
row2 k l =
    not (begins (spelling k) l.bytes) ||
    (not (eqb (length (fields k l)) (field_count k)) ||
    (not (every printable l.bytes) ||
    not l.ended))

-- Row 3: is each number spelled right and in its range?
unfoldable pub numbers_sound : Key → Line → Bool
numbers_sound format l = within (pos first_format) (pos last_format) (field 0 format l)
numbers_sound actions l = within (pos 0) (pos max_actions) (field 0 actions l)
numbers_sound variables l = within (pos 0) (pos max_variables) (field 0 variables l)
numbers_sound variable l = every (within least_number greatest_number) (fields variable l)
numbers_sound automata l = within (pos 1) (pos max_automata) (field 0 automata l)
numbers_sound sync l = every (within (pos 0) (pos max_actions)) (list_items (field 0 sync l))
numbers_sound locations l = within (pos 1) (pos max_locations) (field 0 locations l)
numbers_sound init l = sounds [] (pred_tokens init l)
numbers_sound inv l = sounds [] (pred_tokens inv l)
numbers_sound edges l = within (pos 0) (pos max_edges) (field 0 edges l)
numbers_sound edge l =
    within (pos 0) (pos last_location) (field 0 edge l) &&
    (within (pos 0) (pos max_actions) (field 1 edge l) &&
    (within (pos 0) (pos last_location) (field 2 edge l) &&
    sounds [] (pred_tokens edge l)))
numbers_sound compose l = sounds [] (tree_tokens l)

unfoldable pub row3 : Key → Line → Bool
row3 k l = not (numbers_sound k l)

-- Row 4: is the range empty?
unfoldable pub row4 : Key → Line → Bool
row4 k l = is k variable && is_crossed (the_range l)

-- Row 5: do the action lists rise, from above 0 and up to A?
unfoldable pub row5 : Reading → Key → Line → Bool
row5 r k l =
    is k sync && not (rises r.model.actions 0 (sync_list l)) ||
    is k compose && not (lists_sound r.model.actions [] (tree_tokens l))

-- Rows 6 to 11 are about the P of a line, and in `compose` about each P after an `ini`.
-- Row 6: do the words make a predicate?
unfoldable pub row6 : Key → Line → Bool
row6 k l = is k compose && exists lacks (starts_of l) || has_pred k && lacks (pred_of k l)

-- Row 7: does the model have the variables?
unfoldable pub row7 : Reading → Key → Line → Bool
row7 r k l =
    is k compose && exists (λ p. names_outside (variable_count r) (words p)) (the_starts l) ||
    has_pred k && names_outside (variable_count r) (words_in k l)

-- Row 8: does a location's predicate, or a start condition, read values of after a step?
unfoldable pub row8 : Key → Line → Bool
row8 k l =
    is k compose && exists (λ p. names_new (words p)) (the_starts l) ||
    (is k init || is k inv) && names_new (words_in k l)

-- Row 9: is the predicate nested too deep?
unfoldable pub row9 : Key → Line → Bool
row9 k l = is k compose && exists is_too_deep (the_starts l) || has_pred k && is_too_deep (the_pred k l)

-- Row 10: can an expression leave the span?
unfoldable pub row10 : Reading → Key → Line → Bool
row10 r k l =
    is k compose && exists (exceeds_span r.model.variables) (the_starts l) ||
    has_pred k && exceeds_span r.model.variables (the_pred k l)

-- Row 11: are the nodes too many, this line's included?
unfoldable pub row11 : Reading → Key → Line → Bool
row11 r k l =
    is k compose && passes_nodes r.nodes (flat_map words (the_starts l)) ||
    has_pred k && passes_nodes r.nodes (words_in k l)

-- Row 12: does the model have the edge's ends and action?
unfoldable pub row12 : Reading → Key → Line → Bool
row12 r k l = is k edge && is_astray r (natural_of (field 0 k l)) (natural_of (field 1 k l)) (natural_of (field 2 k l))

-- Row 13: do the nodes make a tree?
unfoldable pub row13 : Key → Line → Bool
row13 k l = is k compose && lacks (tree_of l)

-- Row 14: does each automaton stand in the tree once, in order?
unfoldable pub row14 : Reading → Key → Line → Bool
row14 r k l = is k compose && is_disordered (length r.model.automata) (the_tree l)

-- Row 15: are the edges too many, this automaton's included?
unfoldable pub row15 : Reading → Key → Line → Bool
row15 r k l = is k edges && passes_edges r (natural_of (field 0 k l))

-- Row 16: has the tree too many nodes?
unfoldable pub row16 : Key → Line → Bool
row16 k l = is k compose && is_too_large (length (nodes_in l))

-- Row 50: is a variable's owner none of the automata?
unfoldable pub row50 : Reading → Key → Line → Bool
row50 r k l = is k automata && exists (is_beyond (natural_of (field 0 k l))) r.model.owners

-- the smallest row that a line breaks
unfoldable pub fault : Reading → Key → Line → Option ℕ
fault r k l =
    broken 2 (row2 k l)
    (broken 3 (row3 k l)
    (broken 4 (row4 k l)
    (broken 5 (row5 r k l)
    (broken 6 (row6 k l)
    (broken 7 (row7 r k l)
    (broken 8 (row8 k l)
    (broken 9 (row9 k l)
    (broken 10 (row10 r k l)
    (broken 11 (row11 r k l)
    (broken 12 (row12 r k l)
    (broken 13 (row13 k l)
    (broken 14 (row14 r k l)
    (broken 15 (row15 r k l)
    (broken 16 (row16 k l)
    (broken 50 (row50 r k l)
    none)))))))))))))))

-- what a line that breaks none says; who owns a variable is said behind its line, if it is
unfoldable pub entry : Key → Line → Entry
entry format l = format_line (natural_of (field 0 format l))
entry actions l = actions_line (natural_of (field 0 actions l))
entry variables l = variables_line (natural_of (field 0 variables l))
entry variable l = variable_line (the_range l) none
entry automata l = automata_line (natural_of (field 0 automata l))
entry sync l = sync_line (sync_list l)
entry locations l = locations_line (natural_of (field 0 locations l))
entry init l = init_line (the_pred init l)
entry inv l = inv_line (the_pred inv l)
entry edges l = edges_line (natural_of (field 0 edges l))
entry edge l =
    edge_line
    (record {
      from = natural_of (field 0 edge l);
      action = natural_of (field 1 edge l);
      to = natural_of (field 2 edge l);
      update = the_pred edge l;
    })
entry compose l = compose_line (the_tree l)
