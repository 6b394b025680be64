-- Every word of a lawful model's sheet has 32 bits.
use mathlib.Core.Path.{◌≡◌, refl, sym, ap, ap₂, ◌∙◌}
use mathlib.Core.Bool.{true, not, ◌&&◌}
use mathlib.Core.List.{List, [], ◌∷◌, ◌++◌, map, map-append, flat_map, Memᴰ}
use mathlib.Core.Option.{Option, none, some}
use Prim.Native.Nat.{ℕ, ◌+◌, ◌≤◌, ◌<◌}
use native.Mathlib.Omega.{arith}
use lib.ListN.{length, length-append}
use lib.Dec.{eqb, leb, ltb}
use borrow.Author.Tests.{leb-true, ltb-false}
use Rattle.model.specs.Basic.{between, every, lacks}
use Rattle.model.specs.Bounds.{first_format, last_format, max_actions, max_nodes, max_tree_nodes, least_number, greatest_number, last_automaton}
use Rattle.model.specs.Predicate.{Pred, Word, words, node_count, names_outside, names_new}
use Rattle.model.specs.Composition.{Tree, par, syn, ini, leaf, starts, start_nodes, tree_size}
use Rattle.model.specs.Model.{Model}
use Rattle.model.specs.Lawful.{Lawful}
use Rattle.model.specs.Lines.{Entry, format_line, actions_line, variables_line, variable_line, automata_line, sync_line, locations_line, init_line, inv_line, edges_line, edge_line, compose_line, lines, Reading, at_first, noted}
use Rattle.model.specs.Limits.{in_range, tree_in_range, owner_in_range, numbers_in_range, rises, tree_rises, is_too_deep, exceeds_span, passes_nodes, variable_count, lists_filled, is_disordered, is_too_large, pred_fault, location_fault, content_fault, fault_of, within_limits, limits}
use Rattle.node_words.proofs.NodeLaws.{biased_small, code_small}
use Rattle.model.specs.Table.{biased, low_bits, high_bits, set_words, code, pred_words, start_words, owner_word, line_words, sheet_words}
use Rattle.model.proofs.Tests.{and_intro, and_left, and_right}
use Rattle.model.proofs.LimitLines.{starts_ranged, starts_clear}
use Rattle.model.proofs.LimitsLaws.{lawful_is}
use Rattle.model.proofs.Sizes.{starts_few}
use Rattle.model.proofs.Bits.{rises_cons}
use Rattle.model.proofs.Decode.{unbroken, in_range_lem, unsaid, none_lacks}
use Rattle.table_tree.specs.Nodes.{tree_words}
use Rattle.table_tree.proofs.Standing.{words_par, words_syn, words_ini, words_leaf}
use Rattle.merge_append.specs.Append.{narrow}
use Rattle.merge_table.proofs.Standing.{narrow_is}
use Rattle.merge_table.proofs.SyncIs.{set_fits}

-- words that have 32 bits: one more, and some after others
abbrev Fit : List ℕ → Type 0
Fit ws = map narrow ws ≡ ws

one_fits : (w : ℕ) (ws : List ℕ) → w < 4294967296 → Fit ws → Fit (w ∷ ws)
one_fits w ws h f = ap₂ (λ (x : ℕ) (l : List ℕ). x ∷ l) (narrow_is w h) f

both_fit : (ks ws : List ℕ) → Fit ks → Fit ws → Fit (ks ++ ws)
both_fit ks ws f g = map-append narrow ks ws ∙ ap₂ (λ (k l : List ℕ). k ++ l) f g

-- numbers, and nodes of predicates
codes_fit : (ws : List Word) → every in_range ws ≡ true → Fit (map code ws)
unfolding every
codes_fit [] h = refl
codes_fit (w ∷ ws) h = one_fits (code w) (map code ws) (code_small w (and_left (in_range w) _ h)) (codes_fit ws (and_right (in_range w) _ h))

pred_fits : (p : Pred) → every in_range (words p) ≡ true → node_count p ≤ max_nodes → Fit (pred_words p)
unfolding pred_words
pred_fits p h l = one_fits (node_count p) (map code (words p)) (omega arith) (codes_fit (words p) h)

-- row 11
few_nodes : (r : Reading) (p : Pred) (rest : Option ℕ) → pred_fault r p rest ≡ none → node_count p ≤ max_nodes
unfolding pred_fault passes_nodes node_count
few_nodes r p rest h =
    let a = (unbroken 9 (is_too_deep p) _ h).1 in
    let b = (unbroken 10 (exceeds_span r.model.variables p) _ a).1 in
    let c = ltb-false max_nodes (r.nodes + length (words p)) (unbroken 11 (passes_nodes r.nodes (words p)) rest b).0 in
    omega arith

location_nodes_lem : (r : Reading) (p : Pred) → location_fault r p ≡ none → node_count p ≤ max_nodes
unfolding location_fault
location_nodes_lem r p h =
    let a = (unbroken 7 (names_outside (variable_count r) (words p)) _ h).1 in
    few_nodes r p none (unbroken 8 (names_new (words p)) (pred_fault r p none) a).1

-- a list's two words
rises_below : (A last : ℕ) (list : List ℕ) → rises A last list ≡ true → every (λ k. leb k max_actions) list ≡ true → rises max_actions last list ≡ true
unfolding every
rises_below A last [] r h = unfold rises in refl
rises_below A last (k ∷ ks) r h =
    let q = sym (rises_cons A last k ks) ∙ r in
    let low = and_left (ltb last k) _ (and_left (ltb last k && leb k A) _ q) in
    rises_cons max_actions last k ks ∙
    and_intro (and_intro low (and_left (leb k max_actions) _ h)) (rises_below A k ks (and_right (ltb last k && leb k A) _ q) (and_right (leb k max_actions) _ h))

list_fits : (A : ℕ) (list : List ℕ) → rises A 0 list ≡ true → every (λ k. leb k max_actions) list ≡ true → Fit (set_words list)
unfolding set_words
list_fits A list r h =
    let s = set_fits max_actions list (omega arith) (rises_below A 0 list r h) in
    one_fits (low_bits list) (high_bits list ∷ []) s.0 (one_fits (high_bits list) [] s.1 refl)

-- a tree's nodes: over another tree stands a list, or none
over_fits : (A : ℕ) (list : List ℕ) (c : Tree) → rises A 0 list ≡ true → every (λ k. leb k max_actions) list ≡ true → Fit (tree_words c) → Fit (tree_words (syn list c))
unfolding set_words
over_fits A list c r h under =
    rw (words_syn list c) (one_fits 1 (set_words list ++ tree_words c) (omega arith) (both_fit (set_words list) (tree_words c) (list_fits A list r h) under))

tree_fits : (A : ℕ) (c : Tree) → tree_rises A c ≡ true → tree_in_range c ≡ true → Fit (tree_words c)
unfolding tree_rises tree_in_range rises every set_words
tree_fits A (par c d) r h =
    let left = tree_fits A c (and_left (tree_rises A c) _ r) (and_left (tree_in_range c) _ h) in
    let right = tree_fits A d (and_right (tree_rises A c) _ r) (and_right (tree_in_range c) _ h) in
    rw (words_par c d) (one_fits 0 (tree_words c ++ tree_words d) (omega arith) (both_fit (tree_words c) (tree_words d) left right))
tree_fits A (syn list c) r h =
    let ranged = every (λ k. leb k max_actions) list in
    over_fits A list c (and_left (rises A 0 list) _ r) (and_left ranged _ h) (tree_fits A c (and_right (rises A 0 list) _ r) (and_right ranged _ h))
tree_fits A (ini p c) r h = rw (words_ini p c) (over_fits A [] c refl refl (tree_fits A c r (and_right (every in_range (words p)) _ h)))
tree_fits A (leaf k) r h = let l = leb-true k 15 h in rw (words_leaf k) (one_fits (2 + k) [] (omega arith) refl)

-- the start conditions behind it
preds_fit : (ps : List Pred) → ((p : Pred) → Memᴰ p ps → every in_range (words p) ≡ true) → length (flat_map words ps) ≤ max_nodes → Fit (flat_map pred_words ps)
unfolding flat_map node_count
preds_fit [] ranged few = refl
preds_fit (p ∷ ps) ranged few =
    let l = length-append (words p) (flat_map words ps) in
    both_fit (pred_words p) (flat_map pred_words ps) (pred_fits p (ranged p (Memᴰ.head refl)) (omega arith)) (preds_fit ps (λ q i. ranged q (Memᴰ.tail i)) (omega arith))

starts_fit : (c : Tree) → tree_in_range c ≡ true → start_nodes c ≤ max_nodes → tree_size c ≤ max_tree_nodes → Fit (start_words c)
unfolding start_words start_nodes
starts_fit c h few small = one_fits (length (starts c)) (flat_map pred_words (starts c)) (omega (arith, starts_few c)) (preds_fit (starts c) (starts_ranged c h) few)

-- rows 3, 5, 11 and 16
compose_fits : (r : Reading) (c : Tree) → fault_of r (compose_line c) ≡ none → Fit (line_words (compose_line c))
unfolding fault_of numbers_in_range content_fault is_too_large lacks line_words
compose_fits r c h =
    let A = r.model.actions in
    let ranged = in_range_lem r (compose_line c) h in
    let up : tree_rises A c ≡ true = unsaid r (compose_line c) 5 (tree_rises A c) _ h refl in
    let a = (starts_clear r c _).0 (ap lacks (unbroken 5 (not (tree_rises A c)) _ (unbroken 3 (not (tree_in_range c)) _ h).1).1) in
    let b = (unbroken 13 (not (lists_filled c)) _ (none_lacks _ a.5)).1 in
    let d = (unbroken 14 (is_disordered (length r.model.automata) c) _ b).1 in
    let few = ltb-false max_tree_nodes (tree_size c) (unbroken 16 (is_too_large (tree_size c)) none d).0 in
    one_fits (tree_size c) (tree_words c ++ start_words c) (omega arith)
    (both_fit (tree_words c) (start_words c) (tree_fits A c up ranged) (starts_fit c ranged (omega (arith, a.4)) few))

-- each line's words
said : (r : Reading) (e : Entry) → fault_of r e ≡ none → content_fault r e ≡ none
unfolding fault_of
said r e h = (unbroken 3 (not (numbers_in_range e)) (content_fault r e) h).1

owner_small : (o : Option ℕ) → owner_in_range o ≡ true → owner_word o < 4294967296
unfolding owner_in_range owner_word
owner_small none h = omega arith
owner_small (some k) h = let l = leb-true k last_automaton h in omega arith

line_fits : (r : Reading) (e : Entry) → fault_of r e ≡ none → Fit (line_words e)
unfolding line_words numbers_in_range content_fault
line_fits r (format_line n) h = let l = leb-true n last_format (and_right (leb first_format n) _ (in_range_lem r (format_line n) h)) in one_fits n [] (omega arith) refl
line_fits r (actions_line n) h = let l = leb-true n 63 (in_range_lem r (actions_line n) h) in one_fits n [] (omega arith) refl
line_fits r (variables_line n) h = let l = leb-true n 48 (in_range_lem r (variables_line n) h) in one_fits n [] (omega arith) refl
line_fits r (variable_line x o) h =
    let z = in_range_lem r (variable_line x o) h in
    let y = and_right (between least_number greatest_number x.low) _ z in
    let low = biased_small x.low (and_left (between least_number greatest_number x.low) _ z) in
    let high = biased_small x.high (and_left (between least_number greatest_number x.high) _ y) in
    let owner = owner_small o (and_right (between least_number greatest_number x.high) _ y) in
    one_fits (biased x.low) (biased x.high ∷ owner_word o ∷ []) (omega arith)
    (one_fits (biased x.high) (owner_word o ∷ []) (omega arith) (one_fits (owner_word o) [] owner refl))
line_fits r (automata_line n) h = let l = leb-true n 16 (and_right (leb 1 n) _ (in_range_lem r (automata_line n) h)) in one_fits n [] (omega arith) refl
line_fits r (sync_line list) h = list_fits r.model.actions list (unsaid r (sync_line list) 5 (rises r.model.actions 0 list) none h refl) (in_range_lem r (sync_line list) h)
line_fits r (locations_line n) h = let l = leb-true n 32 (and_right (leb 1 n) _ (in_range_lem r (locations_line n) h)) in one_fits n [] (omega arith) refl
line_fits r (init_line p) h = pred_fits p (in_range_lem r (init_line p) h) (location_nodes_lem r p (said r (init_line p) h))
line_fits r (inv_line p) h = pred_fits p (in_range_lem r (inv_line p) h) (location_nodes_lem r p (said r (inv_line p) h))
line_fits r (edges_line n) h = let l = leb-true n 512 (in_range_lem r (edges_line n) h) in one_fits n [] (omega arith) refl
line_fits r (edge_line e) h =
    let z = in_range_lem r (edge_line e) h in
    let from = leb-true e.from 31 (and_left (leb e.from 31) _ z) in
    let y = and_right (leb e.from 31) _ z in
    let action = leb-true e.action 63 (and_left (leb e.action 63) _ y) in
    let x = and_right (leb e.action 63) _ y in
    let to = leb-true e.to 31 (and_left (leb e.to 31) _ x) in
    let few = few_nodes r e.update _ (unbroken 7 (names_outside (variable_count r) (words e.update)) _ (said r (edge_line e) h)).1 in
    let update = pred_fits e.update (and_right (leb e.to 31) _ x) few in
    one_fits e.from (e.action ∷ e.to ∷ pred_words e.update) (omega arith)
    (one_fits e.action (e.to ∷ pred_words e.update) (omega arith) (one_fits e.to (pred_words e.update) (omega arith) update))
line_fits r (compose_line c) h = compose_fits r c h

-- all lines
lines_fit : (es : List Entry) (r : Reading) → within_limits r es ≡ true → Fit (flat_map line_words es)
unfolding within_limits flat_map
lines_fit [] r h = refl
lines_fit (e ∷ es) r h =
    both_fit (line_words e) (flat_map line_words es) (line_fits r e (none_lacks (fault_of r e) (and_left (lacks (fault_of r e)) _ h)))
    (lines_fit es (noted r e) (and_right (lacks (fault_of r e)) _ h))

-- the law
pub fits : (n : Model) → Lawful n → map narrow (sheet_words n) ≡ sheet_words n
unfolding sheet_words limits
fits n lawful = lines_fit (lines n) at_first (and_right (eqb (length n.owners) (length n.variables)) _ ((lawful_is n).1 lawful))
