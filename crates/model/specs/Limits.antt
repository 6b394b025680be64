-- "Refused": what the rows up to 16 ask of what a line says. The text's rows cite these conditions, and so does row 19,
-- since a table says the same things. (Rows 2 and 6 are about spelling alone; the conditions of 7 and 8 stand in
-- Predicate.)
use Rattle.std.specs.Prelude.{ℕ, suc, ◌+◌, Bool, true, false, not, ◌&&◌, ◌||◌, length, get_or, eqb, leb, ltb}
use mathlib.Core.List.{List, [], ◌∷◌, flat_map}
use Rattle.std.proofs.Math.Option.{Option, none, some}
use Rattle.std.specs.Int.Signed.{le_z}
use Rattle.model.specs.Basic.{between, every, exists, same, count_up, lacks}
use Rattle.model.specs.Bounds.{first_format, last_format, max_actions, max_variables, max_automata, max_locations}
use Rattle.model.specs.Bounds.{max_edges, max_operands, max_depth, max_nodes, max_tree_nodes, last_variable}
use Rattle.model.specs.Bounds.{last_location, last_automaton, least_number, greatest_number, owners_format}
use Rattle.model.specs.Predicate.{Pred, Word, Range, words, depth, all_stay, names_outside, names_new, all_of, any_of}
use Rattle.model.specs.Predicate.{not_word, imp_word, eq_word, le_word, num_word, old_word, new_word, add_word}
use Rattle.model.specs.Predicate.{sub_word}
use Rattle.model.specs.Predicate.{mul_word, if_word, stray, written}
use Rattle.model.specs.Composition.{Tree, par, syn, ini, leaf, leaves, starts, tree_size}
use Rattle.model.specs.Model.{Model, edge_total}
use Rattle.model.specs.Lines.{Entry, format_line, actions_line, variables_line, variable_line, automata_line, sync_line}
use Rattle.model.specs.Lines.{locations_line, init_line, inv_line, edges_line, edge_line, compose_line, lines, Reading}
use Rattle.model.specs.Lines.{at_first, noted, last_of}

-- Row 3: every number is in its range.
unfoldable pub in_range : Word → Bool
in_range (all_of k) = leb k max_operands
in_range (any_of k) = leb k max_operands
in_range not_word = true
in_range imp_word = true
in_range eq_word = true
in_range le_word = true
in_range (num_word z) = between least_number greatest_number z
in_range (old_word k) = leb k last_variable
in_range (new_word k) = leb k last_variable
in_range add_word = true
in_range sub_word = true
in_range mul_word = true
in_range if_word = true
in_range stray = false

unfoldable pub tree_in_range : Tree → Bool
tree_in_range (par c d) = tree_in_range c && tree_in_range d
tree_in_range (syn list c) = every (λ k. leb k max_actions) list && tree_in_range c
tree_in_range (ini p c) = every in_range (words p) && tree_in_range c
tree_in_range (leaf k) = leb k last_automaton

unfoldable pub owner_in_range : Option ℕ → Bool
owner_in_range none = true
owner_in_range (some k) = leb k last_automaton

unfoldable pub numbers_in_range : Entry → Bool
numbers_in_range (format_line n) = leb first_format n && leb n last_format
numbers_in_range (actions_line n) = leb n max_actions
numbers_in_range (variables_line n) = leb n max_variables
numbers_in_range (variable_line x o) =
    between least_number greatest_number x.low && (between least_number greatest_number x.high && owner_in_range o)
numbers_in_range (automata_line n) = leb 1 n && leb n max_automata
numbers_in_range (sync_line list) = every (λ k. leb k max_actions) list
numbers_in_range (locations_line n) = leb 1 n && leb n max_locations
numbers_in_range (init_line p) = every in_range (words p)
numbers_in_range (inv_line p) = every in_range (words p)
numbers_in_range (edges_line n) = leb n max_edges
numbers_in_range (edge_line e) =
    leb e.from last_location &&
    (leb e.action max_actions && (leb e.to last_location && every in_range (words e.update)))
numbers_in_range (compose_line c) = tree_in_range c

-- Row 2, as far as an entry can break it: before format 3 no line says an owner.
unfoldable pub is_early : (format : ℕ) → Option ℕ → Bool
is_early f none = false
is_early f (some k) = ltb f owners_format

-- Row 4: the range is empty.
unfoldable pub is_crossed : Range → Bool
is_crossed x = not (le_z x.low x.high)

-- Row 5: a list rises, from above `last`, and holds nothing above A; so with `last` 0 it holds no 0.
unfoldable pub rises : (A last : ℕ) → List ℕ → Bool
rises A last [] = true
rises A last (k ∷ ks) = elim (ltb last k && leb k A) [ true ↦ rises A k ks | false ↦ false ]

-- the same of a list of variables, whose numbers begin with 0, and which rows 3 and 7 keep to the model's
unfoldable pub ascends : (least : ℕ) → List ℕ → Bool
ascends least [] = true
ascends least (k ∷ ks) = elim (leb least k) [ true ↦ ascends (suc k) ks | false ↦ false ]

unfoldable pub tree_rises : ℕ → Tree → Bool
tree_rises A (par c d) = tree_rises A c && tree_rises A d
tree_rises A (syn list c) = rises A 0 list && tree_rises A c
tree_rises A (ini p c) = tree_rises A c
tree_rises A (leaf k) = true

-- Row 9: too deep. Row 10: an interval leaves the span. Row 11: the nodes so far and these are too many.
-- (Rows 7 and 8 are `names_outside` and `names_new` of Predicate.)
unfoldable pub is_too_deep : Pred → Bool
is_too_deep p = ltb max_depth (depth p)

unfoldable pub exceeds_span : List Range → Pred → Bool
exceeds_span declared p = not (all_stay declared p)

unfoldable pub passes_nodes : ℕ → List Word → Bool
passes_nodes before ws = ltb max_nodes (before + length ws)

-- V, and L of the automaton that is being read
unfoldable pub variable_count : Reading → ℕ
variable_count r = length r.model.variables

unfoldable pub location_count : Reading → ℕ
location_count r = length (last_of r.model.automata).locations

-- Row 12: an edge starts, ends or acts outside the model.
unfoldable pub is_astray : Reading → (from action to : ℕ) → Bool
is_astray r from action to = leb (location_count r) from || (ltb r.model.actions action || leb (location_count r) to)

-- Row 13, as far as a tree can break it: a list of `syn` is empty.
unfoldable pub lists_filled : Tree → Bool
lists_filled (par c d) = lists_filled c && lists_filled d
lists_filled (syn [] c) = false
lists_filled (syn (k ∷ ks) c) = lists_filled c
lists_filled (ini p c) = lists_filled c
lists_filled (leaf k) = true

-- Row 14: each automaton is to stand in the tree once, in order. Row 16: how many nodes it may have.
unfoldable pub is_disordered : ℕ → Tree → Bool
is_disordered N c = not (same (leaves c) (count_up 0 N))

unfoldable pub is_too_large : ℕ → Bool
is_too_large nodes = ltb max_tree_nodes nodes

-- Row 15: are E more edges too many?
unfoldable pub passes_edges : Reading → ℕ → Bool
passes_edges r E = ltb max_edges (edge_total r.model.automata + E)

-- Row 50: is an owner not among N automata?
unfoldable pub is_beyond : ℕ → Option ℕ → Bool
is_beyond N none = false
is_beyond N (some k) = leb N k

-- Row 51: from format 3 on, is there a variable in the list that the last of n automata does not own?
unfoldable pub is_owner : ℕ → Option ℕ → Bool
is_owner n none = false
is_owner n (some k) = eqb (suc k) n

unfoldable pub writes_foreign : (format : ℕ) → List (Option ℕ) → (n : ℕ) → List ℕ → Bool
writes_foreign f owners n list = leb owners_format f && exists (λ k. not (is_owner n (get_or owners k none))) list

-- the same for the automaton that is being read
unfoldable pub is_foreign : Reading → List ℕ → Bool
is_foreign r list = writes_foreign r.model.format r.model.owners (length r.model.automata) list

-- A row's number if it is broken, otherwise what `rest` says.
unfoldable pub broken : ℕ → Bool → Option ℕ → Option ℕ
broken row true rest = some row
broken row false rest = rest

-- the smallest row that an entry breaks
unfoldable pub pred_fault : Reading → Pred → Option ℕ → Option ℕ
pred_fault r p rest =
    broken 9 (is_too_deep p)
    (broken 10 (exceeds_span r.model.variables p)
    (broken 11 (passes_nodes r.nodes (words p))
    rest))

unfoldable pub location_fault : Reading → Pred → Option ℕ
location_fault r p =
    broken 7 (names_outside (variable_count r) (words p))
    (broken 8 (names_new (words p))
    (pred_fault r p none))

-- the same of all P after `ini` together: a row's condition is that one of them breaks it, and their nodes are added up
unfoldable pub starts_fault : Reading → List Pred → Option ℕ → Option ℕ
starts_fault r ps rest =
    broken 7 (exists (λ p. names_outside (variable_count r) (words p)) ps)
    (broken 8 (exists (λ p. names_new (words p)) ps)
    (broken 9 (exists is_too_deep ps)
    (broken 10 (exists (exceeds_span r.model.variables) ps)
    (broken 11 (passes_nodes r.nodes (flat_map words ps))
    rest))))

unfoldable pub content_fault : Reading → Entry → Option ℕ
content_fault r (format_line n) = none
content_fault r (actions_line n) = none
content_fault r (variables_line n) = none
content_fault r (variable_line x o) = broken 2 (is_early r.model.format o) (broken 4 (is_crossed x) none)
content_fault r (automata_line n) = broken 50 (exists (is_beyond n) r.model.owners) none
content_fault r (sync_line list) = broken 5 (not (rises r.model.actions 0 list)) none
content_fault r (locations_line n) = none
content_fault r (init_line p) = location_fault r p
content_fault r (inv_line p) = location_fault r p
content_fault r (edges_line n) = broken 15 (passes_edges r n) none
content_fault r (edge_line e) =
    broken 7 (names_outside (variable_count r) (words e.update))
    (pred_fault r e.update
    (broken 12 (is_astray r e.from e.action e.to)
    (broken 51 (is_foreign r (written e.update))
    none)))
content_fault r (compose_line c) =
    broken 5 (not (tree_rises r.model.actions c))
    (starts_fault r (starts c)
    (broken 13 (not (lists_filled c))
    (broken 14 (is_disordered (length r.model.automata) c)
    (broken 16 (is_too_large (tree_size c))
    none))))

unfoldable pub fault_of : Reading → Entry → Option ℕ
fault_of r e = broken 3 (not (numbers_in_range e)) (content_fault r e)

-- no line, in file order, breaks a row
unfoldable pub within_limits : Reading → List Entry → Bool
within_limits r [] = true
within_limits r (e ∷ es) = lacks (fault_of r e) && within_limits (noted r e) es

-- what an accepted model meets, and that each variable has its place for an owner. (Its text then has at most 65,536
-- bytes: text_fits.)
unfoldable pub limits : Model → Bool
limits m = eqb (length m.owners) (length m.variables) && within_limits at_first (lines m)
