-- How many words the lines of a model have: no more than a table.
use Prim.Native.Nat.{ℕ, suc, ◌+◌, ◌*◌, ◌≤◌}
use mathlib.Core.Path.{◌≡◌, refl, ap}
use mathlib.Core.List.{List, [], ◌∷◌, ◌++◌, map, flat_map, Memᴰ}
use mathlib.Core.Option as O
use mathlib.Core.Option.{Option}
use native.Mathlib.Omega.{arith}
use lib.ListN.{length, length-append, length-map}
use Rattle.model.specs.Basic.{sum}
use Rattle.model.specs.Bounds.{max_locations, table_words}
use Rattle.model.specs.Predicate.{Pred, Range, words, node_count}
use Rattle.model.specs.Composition.{Tree, par, syn, ini, leaf, starts, start_nodes, Node, nodes, tree_size, par_node, syn_node, ini_node, leaf_node, stray_node}
use Rattle.model.specs.Model.{Location, Edge, Automaton, Model, edge_total}
use Rattle.model.specs.Lines.{Entry, format_line, actions_line, variables_line, variable_line, automata_line, sync_line, locations_line, init_line, inv_line, edges_line, edge_line, compose_line, location_lines, automaton_lines, variable_lines, lines}
use Rattle.model.specs.Lawful.{Lawful, location_nodes, automaton_nodes, node_total}
use Rattle.model.specs.Table.{code, set_words, pred_words, node_words, start_words, line_words, sheet_words}

-- how many words lines have
size : List Entry → ℕ
size es = length (flat_map line_words es)

size_none : size [] ≡ 0
unfolding size flat_map
size_none = refl

size_cons : (e : Entry) (es : List Entry) → size (e ∷ es) ≡ length (line_words e) + size es
unfolding size flat_map
size_cons e es = length-append (line_words e) (flat_map line_words es)

size_append : (a b : List Entry) → size (a ++ b) ≡ size a + size b
size_append [] b = omega (arith, size_none)
size_append (e ∷ a) b = omega (arith, size_cons e (a ++ b), size_cons e a, size_append a b)

size_pred : (p : Pred) → length (pred_words p) ≡ suc (node_count p)
unfolding pred_words node_count
size_pred p = ap suc (length-map (words p) code)

size_variables : (xs : List Range) (os : List (Option ℕ)) → size (variable_lines xs os) ≡ 3 * length xs
unfolding line_words variable_lines
size_variables [] os = size_none
size_variables (x ∷ xs) [] = omega (arith, size_cons (variable_line x O.none) (variable_lines xs []), size_variables xs [])
size_variables (x ∷ xs) (o ∷ os) = omega (arith, size_cons (variable_line x o) (variable_lines xs os), size_variables xs os)

size_locations : (xs : List Location) → size (flat_map location_lines xs) ≡ 2 * length xs + sum (map location_nodes xs)
unfolding flat_map location_lines location_nodes sum line_words
size_locations [] = size_none
size_locations (x ∷ xs) =
    let a = size_cons (init_line x.init) (inv_line x.inv ∷ flat_map location_lines xs) in
    let b = size_cons (inv_line x.inv) (flat_map location_lines xs) in
    omega (arith, a, b, size_pred x.init, size_pred x.inv, size_locations xs)

size_edges : (xs : List Edge) → size (map edge_line xs) ≡ 4 * length xs + sum (map (λ (e : Edge). node_count e.update) xs)
unfolding sum line_words
size_edges [] = size_none
size_edges (x ∷ xs) = omega (arith, size_cons (edge_line x) (map edge_line xs), size_pred x.update, size_edges xs)

size_automaton : (x : Automaton) → size (automaton_lines x) ≡ 4 + 2 * length x.locations + 4 * length x.edges + automaton_nodes x
unfolding automaton_lines automaton_nodes line_words set_words
size_automaton x =
    let locationsPart = flat_map location_lines x.locations in
    let edgesPart = edges_line (length x.edges) ∷ map edge_line x.edges in
    let a = size_cons (sync_line x.sync) (locations_line (length x.locations) ∷ (locationsPart ++ edgesPart)) in
    let b = size_cons (locations_line (length x.locations)) (locationsPart ++ edgesPart) in
    let c = size_cons (edges_line (length x.edges)) (map edge_line x.edges) in
    omega (arith, a, b, c, size_append locationsPart edgesPart, size_locations x.locations, size_edges x.edges)

size_automata : (xs : List Automaton) → ((x : Automaton) → Memᴰ x xs → length x.locations ≤ max_locations) → size (flat_map automaton_lines xs) ≤ (4 + 2 * max_locations) * length xs + 4 * edge_total xs + node_total xs
unfolding flat_map edge_total node_total sum
size_automata [] h = omega (arith, size_none)
size_automata (x ∷ xs) h =
    let rest = size_automata xs (λ y e. h y (Memᴰ.tail e)) in
    omega (arith, size_append (automaton_lines x) (flat_map automaton_lines xs), size_automaton x, h x (Memᴰ.head refl), rest)

size_node : (n : Node) → length (node_words n) ≤ 3
unfolding node_words set_words
size_node par_node = omega arith
size_node (syn_node list) = omega arith
size_node (ini_node p) = omega arith
size_node (leaf_node k) = omega arith
size_node stray_node = omega arith

size_nodes : (ns : List Node) → length (flat_map node_words ns) ≤ 3 * length ns
unfolding flat_map
size_nodes [] = omega arith
size_nodes (n ∷ ns) = omega (arith, length-append (node_words n) (flat_map node_words ns), size_node n, size_nodes ns)

-- the P of every `ini`, each with its count; there are no more than nodes
size_preds : (ps : List Pred) → length (flat_map pred_words ps) ≡ length ps + length (flat_map words ps)
unfolding flat_map node_count
size_preds [] = refl
size_preds (p ∷ ps) = omega (arith, length-append (pred_words p) (flat_map pred_words ps), length-append (words p) (flat_map words ps), size_pred p, size_preds ps)

pub starts_few : (c : Tree) → suc (length (starts c)) ≤ tree_size c
unfolding starts tree_size nodes
starts_few (par c d) = omega (arith, length-append (starts c) (starts d), length-append (nodes c) (nodes d), starts_few c, starts_few d)
starts_few (syn list c) = let l = starts_few c in omega arith
starts_few (ini p c) = let l = starts_few c in omega arith
starts_few (leaf k) = omega arith

size_tree : (c : Tree) → length (line_words (compose_line c)) ≤ 2 + 4 * tree_size c + start_nodes c
unfolding line_words start_words start_nodes tree_size
size_tree c =
    let a = length-append (flat_map node_words (nodes c)) (start_words c) in
    let f = starts_few c in
    omega (arith, a, size_nodes (nodes c), size_preds (starts c))

lines_fit : (m : Model) → Lawful m → size (lines m) ≤ table_words
unfolding lines line_words tree_size
lines_fit m w =
    let automataPart = flat_map automaton_lines m.automata in
    let tail = automataPart ++ compose_line m.tree ∷ [] in
    let rest = automata_line (length m.automata) ∷ tail in
    let variablesPart = variable_lines m.variables m.owners in
    let v = variables_line (length m.variables) ∷ variablesPart ++ rest in
    let a = size_cons (format_line m.format) (actions_line m.actions ∷ v) in
    let b = size_cons (actions_line m.actions) v in
    let c = size_cons (variables_line (length m.variables)) (variablesPart ++ rest) in
    let d = size_append variablesPart rest in
    let e = size_variables m.variables m.owners in
    let f = size_cons (automata_line (length m.automata)) tail in
    let g = size_append automataPart (compose_line m.tree ∷ []) in
    let h = size_automata m.automata (λ x i. (w.automata x i).few_locations) in
    let j = size_cons (compose_line m.tree) [] in
    let k = size_tree m.tree in
    let l = w.tree.size in
    omega (arith, size_none, w.few_variables, w.few_automata, w.few_edges, w.few_nodes, a, b, c, d, e, f, g, h, j, k, l)

-- each line has a word at least
size_line : (e : Entry) → 1 ≤ length (line_words e)
unfolding line_words set_words pred_words
size_line (format_line n) = omega arith
size_line (actions_line n) = omega arith
size_line (variables_line n) = omega arith
size_line (variable_line x o) = omega arith
size_line (automata_line n) = omega arith
size_line (sync_line list) = omega arith
size_line (locations_line n) = omega arith
size_line (init_line p) = omega arith
size_line (inv_line p) = omega arith
size_line (edges_line n) = omega arith
size_line (edge_line e) = omega arith
size_line (compose_line c) = omega arith

size_lines : (es : List Entry) → length es ≤ size es
size_lines [] = omega arith
size_lines (e ∷ es) = omega (arith, size_cons e es, size_line e, size_lines es)

pub words_fit : (m : Model) → Lawful m → length (sheet_words m) ≤ table_words
unfolding size sheet_words
words_fit m w = lines_fit m w

-- so the fuel of `decode` is enough
pub lines_few : (m : Model) → Lawful m → length (lines m) ≤ table_words
lines_few m w = omega (arith, size_lines (lines m), lines_fit m w)
