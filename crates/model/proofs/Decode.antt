-- What the words of a model's lines say is read back from them.
use Prim.Native.Nat.{ℕ, zero, suc, ◌+◌, ◌-◌, ◌≤◌, ◌<◌}
use mathlib.Core.Path.{◌≡◌, refl, sym, ap, ap₂, ◌∙◌}
use mathlib.Core.Bool.{Bool, true, false, not, ◌&&◌, true≢false}
use mathlib.Core.List.{List, [], ◌∷◌, ◌++◌, append_assoc, map, flat_map, Memᴰ}
use mathlib.Core.Option.{Option, none, some}
use native.Mathlib.Omega.{arith}
use lib.Dec.{leb}
use lib.IntN.{ℤ, pos, negsuc}
use lib.ListN.{length, get_or, length-map}
use lib.Seq.{take_at, drop_at}
use borrow.Author.Tests.{leb-true, le-leb, lt-leb, not-false}
use Rattle.model.specs.Basic.{between, every, exists, keep, count_up, lacks, on_some}
use Rattle.model.specs.Bounds.{max_actions, max_operands, last_variable, least_number, greatest_number, bias, first_number_word}
use Rattle.model.specs.Predicate.{Pred, Word, words, node_count, names_outside, names_new, range, all_of, any_of, not_word, imp_word, eq_word, le_word, num_word, old_word, new_word, add_word, sub_word, mul_word, if_word, stray}
use Rattle.model.specs.Composition.{Tree, Node, nodes, starts, tree_size, par, syn, ini, leaf, par_node, syn_node, ini_node, leaf_node, stray_node}
use Rattle.model.specs.Model.{Edge, Model}
use Rattle.model.specs.Lines.{Key, Entry, format_line, actions_line, variables_line, variable_line, automata_line, sync_line, locations_line, init_line, inv_line, edges_line, edge_line, compose_line, key_of, then_due, Reading, noted}
use Rattle.model.specs.Limits.{in_range, tree_in_range, numbers_in_range, rises, tree_rises, lists_filled, is_too_deep, exceeds_span, passes_nodes, variable_count, broken, starts_fault, content_fault, fault_of, within_limits}
use Rattle.model.specs.Table.{biased, unbiased, node_word, kind_of, argument_of, code, kinds, word_of, set_words, pred_words, node_words, start_words, line_words, low_bits, high_bits, bit, set_of, split, split_number, split_pair, owner_word, owner_from, split_variable, split_pred, edge_to, split_edge, and_node, over_node, split_nodes, and_pred, split_preds, split_starts, tree_with, split_tree, split_entry, decode}
use Rattle.model.proofs.Tests.{and_intro, and_left, and_right, every_append}
use Rattle.model.proofs.Parsing.{none_some, read_words_of, read_nodes_of, bare, given_back}
use Rattle.model.proofs.LinesLaws.{Follows}
use Rattle.model.proofs.Bits.{set_back}
use Rattle.model.proofs.LimitLines.{starts_ranged}

-- numbers
pub number_back : (z : ℤ) → between least_number greatest_number z ≡ true → unbiased (biased z) ≡ z
unfolding unbiased biased between
number_back (pos n) h =
    let e : leb bias (bias + n) ≡ true = le-leb bias (bias + n) (omega arith) in
    let back : (bias + n) - bias ≡ n = omega arith in
    rw (e, unbiased) (ap pos back)
number_back (negsuc n) h =
    let l = leb-true n 999999999 (and_left (leb n 999999999) _ h) in
    let e : leb bias (bias - suc n) ≡ false = lt-leb bias (bias - suc n) (omega arith) in
    let back : bias - suc (bias - suc n) ≡ n = omega arith in
    rw (e, unbiased) (ap negsuc back)

-- words of predicates
pub kind_of_lem : (kind k : ℕ) → kind < 16 → kind_of (node_word kind k) ≡ kind
unfolding kind_of node_word
kind_of_lem kind k h = omega arith

pub argument_of_lem : (kind k : ℕ) → kind < 16 → argument_of (node_word kind k) ≡ k
unfolding argument_of node_word
argument_of_lem kind k h = omega arith

number_word : (n : ℕ) → word_of (first_number_word + n) ≡ num_word (unbiased n)
unfolding word_of
number_word n =
    let back : (first_number_word + n) - first_number_word ≡ n = omega arith in
    rw (le-leb first_number_word (first_number_word + n) (omega arith), word_of, back)

word_parts : (kind k : ℕ) → kind < 16 → k < 134217728 → word_of (node_word kind k) ≡ get_or (kinds k) kind stray
unfolding word_of node_word
word_parts kind k l small = rw (lt-leb first_number_word (node_word kind k) (omega arith), word_of, argument_of_lem kind k l, kind_of_lem kind k l)

pub word_back : (w : Word) → in_range w ≡ true → word_of (code w) ≡ w
unfolding code kinds in_range
word_back (all_of k) h = let l = leb-true k max_operands h in word_parts 0 k (omega arith) (omega arith)
word_back (any_of k) h = let l = leb-true k max_operands h in word_parts 1 k (omega arith) (omega arith)
word_back not_word h = word_parts 2 0 (omega arith) (omega arith)
word_back imp_word h = word_parts 3 0 (omega arith) (omega arith)
word_back eq_word h = word_parts 4 0 (omega arith) (omega arith)
word_back le_word h = word_parts 5 0 (omega arith) (omega arith)
word_back (num_word z) h = number_word (biased z) ∙ ap num_word (number_back z h)
word_back (old_word k) h = let l = leb-true k last_variable h in word_parts 7 k (omega arith) (omega arith)
word_back (new_word k) h = let l = leb-true k last_variable h in word_parts 8 k (omega arith) (omega arith)
word_back add_word h = word_parts 9 0 (omega arith) (omega arith)
word_back sub_word h = word_parts 10 0 (omega arith) (omega arith)
word_back mul_word h = word_parts 11 0 (omega arith) (omega arith)
word_back if_word h = word_parts 12 0 (omega arith) (omega arith)
word_back stray h = word_parts 15 0 (omega arith) (omega arith)

pub words_back : (ws : List Word) → every in_range ws ≡ true → map word_of (map code ws) ≡ ws
unfolding every
words_back [] h = refl
words_back (w ∷ ws) h = ap₂ (λ x xs. x ∷ xs) (word_back w (and_left (in_range w) _ h)) (words_back ws (and_right (in_range w) _ h))

pred_back : (f : Pred → Entry) (p : Pred) (rest : List ℕ) → every in_range (words p) ≡ true → split_pred f (pred_words p ++ rest) ≡ split (f p) rest
unfolding split_pred pred_words node_count on_some
pred_back f p rest h =
    let n = length-map (words p) code in
    rw (take_at (map code (words p)) rest (node_count p) n, drop_at (map code (words p)) rest (node_count p) n, words_back (words p) h, read_words_of p)

-- nodes of trees
good : ℕ → Node → Bool
good A par_node = true
good A (syn_node []) = false
good A (syn_node (k ∷ ks)) = rises A 0 (k ∷ ks) && every (λ k. leb k max_actions) (k ∷ ks)
good A (ini_node p) = true
good A (leaf_node k) = true
good A stray_node = false

all_good : (A : ℕ) (c : Tree) → tree_rises A c ≡ true → lists_filled c ≡ true → tree_in_range c ≡ true → every (good A) (nodes c) ≡ true
unfolding every good nodes tree_rises lists_filled tree_in_range
all_good A (par c d) r f h =
    rw (every_append (good A) (nodes c) (nodes d))
    (and_intro (all_good A c (and_left (tree_rises A c) _ r) (and_left (lists_filled c) _ f) (and_left (tree_in_range c) _ h)) (all_good A d (and_right (tree_rises A c) _ r) (and_right (lists_filled c) _ f) (and_right (tree_in_range c) _ h)))
all_good A (syn [] c) r f h = absurd (true≢false (sym f))
all_good A (syn (k ∷ ks) c) r f h =
    let ranged = every (λ k. leb k max_actions) (k ∷ ks) in
    and_intro (and_intro (and_left (rises A 0 (k ∷ ks)) _ r) (and_left ranged _ h)) (all_good A c (and_right (rises A 0 (k ∷ ks)) _ r) f (and_right ranged _ h))
all_good A (ini p c) r f h = all_good A c r f (and_right (every in_range (words p)) _ h)
all_good A (leaf k) r f h = refl

none_set : set_of (low_bits []) (high_bits []) ≡ []
unfolding low_bits high_bits set_of keep bit count_up
none_set = refl

list_back : (A : ℕ) (ns : List Node) (rest : List ℕ) → every (good A) ns ≡ true → split_nodes (length ns) (flat_map node_words ns ++ rest) ≡ split (map bare ns) rest
unfolding split_nodes flat_map node_words set_words and_node over_node on_some every good split bare
list_back A [] rest h = refl
list_back A (par_node ∷ ns) rest h = rw (list_back A ns rest h)
list_back A (syn_node [] ∷ ns) rest h = absurd (true≢false (sym h))
list_back A (syn_node (k ∷ ks) ∷ ns) rest h =
    let list = k ∷ ks in
    let e = and_left (rises A 0 list && every (λ k. leb k max_actions) list) _ h in
    rw (list_back A ns rest (and_right (rises A 0 list && every (λ k. leb k max_actions) list) _ h), set_back A list (and_left (rises A 0 list) _ e) (and_right (rises A 0 list) _ e))
list_back A (ini_node p ∷ ns) rest h = rw (list_back A ns rest h, none_set)
list_back A (leaf_node k ∷ ns) rest h =
    let e : 2 + k ≡ suc (suc k) = omega arith in
    rw (e, list_back A ns rest h)
list_back A (stray_node ∷ ns) rest h = absurd (true≢false (sym h))

pub nodes_back : (A : ℕ) (c : Tree) (rest : List ℕ) → tree_rises A c ≡ true → lists_filled c ≡ true → tree_in_range c ≡ true → split_nodes (tree_size c) (flat_map node_words (nodes c) ++ rest) ≡ split (map bare (nodes c)) rest
unfolding tree_size
nodes_back A c rest r f h = list_back A (nodes c) rest (all_good A c r f h)

-- the P behind the tree
preds_back : (ps : List Pred) (rest : List ℕ) → ((p : Pred) → Memᴰ p ps → every in_range (words p) ≡ true) → split_preds (length ps) (flat_map pred_words ps ++ rest) ≡ split ps rest
unfolding split_preds and_pred flat_map pred_words node_count on_some split
preds_back [] rest h = refl
preds_back (p ∷ ps) rest h =
    let more = flat_map pred_words ps ++ rest in
    let n = length-map (words p) code in
    let e = append_assoc (map code (words p)) (flat_map pred_words ps) rest in
    rw (e, take_at (map code (words p)) more (node_count p) n, drop_at (map code (words p)) more (node_count p) n, words_back (words p) (h p (Memᴰ.head refl)), read_words_of p, preds_back ps rest (λ q i. h q (Memᴰ.tail i)))

-- where no row is broken, the first is not, and none after it
pub unbroken : (row : ℕ) (b : Bool) (rest : Option ℕ) → broken row b rest ≡ none → (b ≡ false) × (rest ≡ none)
unfolding broken
unbroken row true rest h = absurd (none_some row (sym h))
unbroken row false rest h = (refl, h)

-- a row that is not broken, and one that is
pub not_broken : (row : ℕ) (b : Bool) (rest : Option ℕ) → b ≡ false → broken row b rest ≡ rest
unfolding broken
not_broken row b rest h = rw h

pub is_broken : (row : ℕ) (b : Bool) (rest : Option ℕ) → b ≡ true → broken row b rest ≡ some row
unfolding broken
is_broken row b rest h = rw h

pub in_range_lem : (r : Reading) (e : Entry) → fault_of r e ≡ none → numbers_in_range e ≡ true
unfolding fault_of
in_range_lem r e h = not-false _ (unbroken 3 (not (numbers_in_range e)) (content_fault r e) h).0

pub update_ranged : (r : Reading) (e : Edge) → fault_of r (edge_line e) ≡ none → every in_range (words e.update) ≡ true
unfolding numbers_in_range
update_ranged r e h =
    let z = in_range_lem r (edge_line e) h in
    and_right (leb e.to 31) _ (and_right (leb e.action 63) _ (and_right (leb e.from 31) _ z))

-- with the numbers in range, the first row that an entry could break
pub unsaid : (r : Reading) (e : Entry) (row : ℕ) (b : Bool) (rest : Option ℕ) → fault_of r e ≡ none → content_fault r e ≡ broken row (not b) rest → b ≡ true
unfolding fault_of
unsaid r e row b rest h s = not-false b (unbroken row (not b) rest (sym s ∙ (unbroken 3 (not (numbers_in_range e)) (content_fault r e) h).1)).0

-- no row of the P after `ini` is broken, and none after these
past_starts : (r : Reading) (ps : List Pred) (rest : Option ℕ) → starts_fault r ps rest ≡ none → rest ≡ none
unfolding starts_fault
past_starts r ps rest h =
    let a = (unbroken 7 (exists (λ p. names_outside (variable_count r) (words p)) ps) _ h).1 in
    let b = (unbroken 8 (exists (λ p. names_new (words p)) ps) _ a).1 in
    let c = (unbroken 9 (exists is_too_deep ps) _ b).1 in
    let d = (unbroken 10 (exists (exceeds_span r.model.variables) ps) _ c).1 in
    (unbroken 11 (passes_nodes r.nodes (flat_map words ps)) rest d).1

-- so the lists after `syn` are not empty
pub lists_filled_lem : (r : Reading) (c : Tree) → fault_of r (compose_line c) ≡ none → lists_filled c ≡ true
unfolding fault_of content_fault
lists_filled_lem r c h =
    let a = (unbroken 3 (not (numbers_in_range (compose_line c))) _ h).1 in
    let b = (unbroken 5 (not (tree_rises r.model.actions c)) _ a).1 in
    not-false _ (unbroken 13 (not (lists_filled c)) _ (past_starts r (starts c) _ b)).0

-- an owner's word
pub owner_back : (o : Option ℕ) → owner_from (owner_word o) ≡ o
unfolding owner_from owner_word
owner_back none = refl
owner_back (some k) = refl

-- each line's entry
pub entry_back : (r : Reading) (e : Entry) (rest : List ℕ) → fault_of r e ≡ none → split_entry (key_of e) (line_words e ++ rest) ≡ split e rest
unfolding split_entry key_of line_words start_words split_number split_pair split_variable split_edge split_tree split_starts tree_with edge_to set_words numbers_in_range content_fault on_some split range
entry_back r (format_line n) rest h = refl
entry_back r (actions_line n) rest h = refl
entry_back r (variables_line n) rest h = refl
entry_back r (variable_line x o) rest h =
    let z = in_range_lem r (variable_line x o) h in
    let y = and_right (between least_number greatest_number x.low) _ z in
    rw (number_back x.low (and_left (between least_number greatest_number x.low) _ z), number_back x.high (and_left (between least_number greatest_number x.high) _ y), owner_back o)
entry_back r (automata_line n) rest h = refl
entry_back r (sync_line list) rest h =
    rw (set_back r.model.actions list (unsaid r (sync_line list) 5 (rises r.model.actions 0 list) none h refl) (in_range_lem r (sync_line list) h))
entry_back r (locations_line n) rest h = refl
entry_back r (init_line p) rest h = pred_back init_line p rest (in_range_lem r (init_line p) h)
entry_back r (inv_line p) rest h = pred_back inv_line p rest (in_range_lem r (inv_line p) h)
entry_back r (edges_line n) rest h = refl
entry_back r (edge_line e) rest h = pred_back (edge_to e.from e.action e.to) e.update rest (update_ranged r e h)
entry_back r (compose_line c) rest h =
    let up : tree_rises r.model.actions c ≡ true = unsaid r (compose_line c) 5 (tree_rises r.model.actions c) _ h refl in
    let ranged = in_range_lem r (compose_line c) h in
    let words = nodes_back r.model.actions c (start_words c ++ rest) up (lists_filled_lem r c h) ranged in
    rw (append_assoc (flat_map node_words (nodes c)) (start_words c) rest, words, preds_back (starts c) rest (starts_ranged c ranged), given_back c, read_nodes_of c)

-- all lines, as far as the fuel goes
pub none_lacks : (o : Option ℕ) → lacks o ≡ true → o ≡ none
unfolding lacks
none_lacks none h = refl
none_lacks (some n) h = absurd (true≢false (sym h))

decode_step : (n : ℕ) (r : Reading) (k : Key) (ks : List Key) (ws rest : List ℕ) (e : Entry) → split_entry k ws ≡ split e rest → lacks (fault_of r e) ≡ true → decode (suc n) r (k ∷ ks) ws ≡ decode n (noted r e) (then_due r.model.format e ++ ks) rest
unfolding decode on_some split
decode_step n r k ks ws rest e back ok = rw back (ap {B = Option Model} (λ b. elim b [ true ↦ decode n (noted r e) (then_due r.model.format e ++ ks) rest | false ↦ none ]) ok)

pub decode_lines : (es : List Entry) (r : Reading) (ks : List Key) (m : Model) → Follows es r ks m → within_limits r es ≡ true → (n : ℕ) → length es ≤ n → (rest : List ℕ) → decode n r ks (flat_map line_words es ++ rest) ≡ some m
unfolding within_limits decode flat_map
decode_lines [] r [] m f h zero l rest = ap some f
decode_lines [] r [] m f h (suc n) l rest = ap some f
decode_lines [] r (k ∷ ks) m f h n l rest = absurd f
decode_lines (e ∷ es) r [] m f h n l rest = absurd f
decode_lines (e ∷ es) r (k ∷ ks) m f h zero l rest = absurd (omega arith)
decode_lines (e ∷ es) r (k ∷ ks) m f h (suc n) l rest =
    let ok = and_left (lacks (fault_of r e)) _ h in
    let back : split_entry k (line_words e ++ flat_map line_words es ++ rest) ≡ split e (flat_map line_words es ++ rest) =
    rw (← f.0, append_assoc (line_words e) (flat_map line_words es) rest) (entry_back r e (flat_map line_words es ++ rest) (none_lacks (fault_of r e) ok)) in
    decode_step n r k ks (line_words e ++ flat_map line_words es ++ rest) (flat_map line_words es ++ rest) e back ok ∙
    decode_lines es (noted r e) (then_due r.model.format e ++ ks) m f.1 (and_right (lacks (fault_of r e)) _ h) n (omega arith) rest
