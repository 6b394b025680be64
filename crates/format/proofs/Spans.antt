-- In which span the bytes of what is spelled lie, so that they are printable, and no separator is among them.
use Prim.Native.Nat.{ℕ, zero, suc, ◌+◌, ◌/◌, ◌%◌, ◌≤◌, ◌<◌}
use mathlib.Core.Path.{◌≡◌}
use mathlib.Core.List.{List, [], ◌∷◌, ◌++◌, map, flat_map}
use mathlib.Core.Logic.{⊎_elim}
use mathlib.Core.Option.{Option, none, some}
use native.Mathlib.Omega.{arith}
use lib.IntN.{ℤ, pos, negsuc}
use Rattle.model.specs.Composition.{Node, Tree, ini_node, leaf_node, nodes, par_node, stray_node, syn_node}
use Rattle.model.specs.Lines.{Entry, Key, actions, actions_line, automata, automata_line, compose, compose_line, edge, edge_line, edges, edges_line, format, format_line, init, init_line, inv, inv_line, key_of, locations, locations_line, sync, sync_line, variable, variable_line, variables, variables_line}
use Rattle.model.specs.Predicate.{Pred, Word, add_word, all_of, any_of, eq_word, if_word, imp_word, le_word, mul_word, new_word, not_word, num_word, old_word, stray, sub_word, words}
use Rattle.format.specs.Bytes.{Bytes}
use Rattle.format.specs.Number.{decimal, signed}
use Rattle.format.specs.Spelling.{none_word, owner_key, spelled, spelled_node, spelling, text_of_list, text_of_owner, text_of_pred, text_of_tree, value_text, writes_key}
use Rattle.format.proofs.BytesLaws.{Each, Free, each_append, each_map, joined_each}
use Rattle.format.proofs.NumberLaws.{decimal_small, decimal_step, split}

-- every byte is from low to high
abbrev pub Span : ℕ → ℕ → Bytes → Type 0
Span low high s = Each (λ b. (low ≤ b) × (b ≤ high)) s

wider : (a b c d : ℕ) (s : Bytes) → c ≤ a → b ≤ d → Span a b s → Span c d s
wider a b c d s h k l = each_map (λ x. (a ≤ x) × (x ≤ b)) (λ x. (c ≤ x) × (x ≤ d)) (λ x y. omega arith) s l

each_wider : (a b c d : ℕ) (ts : List Bytes) → c ≤ a → b ≤ d → Each (Span a b) ts → Each (Span c d) ts
each_wider a b c d ts h k l = each_map (Span a b) (Span c d) (λ s. wider a b c d s h k) ts l

span_free : (a b c : ℕ) (s : Bytes) → c < a → Span a b s → Free c s
span_free a b c s h l = each_map (λ x. (a ≤ x) × (x ≤ b)) (λ x. x ≡ c → ⊥) (λ x y e. omega arith) s l

each_free : (a b c : ℕ) (ts : List Bytes) → c < a → Each (Span a b) ts → Each (Free c) ts
each_free a b c ts h l = each_map (Span a b) (Free c) (λ s. span_free a b c s h) ts l

-- numbers
digit_span : (k n : ℕ) → n < k → Span 48 57 (decimal n)
digit_span zero n h = absurd (omega arith)
digit_span (suc k) n h =
    ⊎_elim
    (λ (u : n < 10). rw (decimal_small n u) (omega arith))
    (λ (u : 10 ≤ n). rw (decimal_step n u) (each_append (λ b. (48 ≤ b) × (b ≤ 57)) (decimal (n / 10)) ((48 + n % 10) ∷ []) (digit_span k (n / 10) (omega arith)) (omega arith)))
    (split n 10)

decimal_span : (a b n : ℕ) → a ≤ 48 → 57 ≤ b → Span a b (decimal n)
decimal_span a b n h k = wider 48 57 a b (decimal n) h k (digit_span (suc n) n (omega arith))

signed_span : (a b : ℕ) (z : ℤ) → a ≤ 45 → 57 ≤ b → Span a b (signed z)
unfolding signed
signed_span a b (pos n) h k = decimal_span a b n (omega arith) k
signed_span a b (negsuc n) h k = (omega arith, decimal_span a b (suc n) (omega arith) k)

pub decimal_free : (n : ℕ) → Free 44 (decimal n)
decimal_free n = span_free 45 57 44 (decimal n) (omega arith) (decimal_span 45 57 n (omega arith) (omega arith))

pub signed_free : (z : ℤ) → Free 44 (signed z)
signed_free z = span_free 45 57 44 (signed z) (omega arith) (signed_span 45 57 z (omega arith) (omega arith))

-- predicates
spelled_span : (w : Word) → Each (Span 45 126) (spelled w)
unfolding spelled
spelled_span (all_of k) = (omega arith, (decimal_span 45 126 k (omega arith) (omega arith), tt))
spelled_span (any_of k) = (omega arith, (decimal_span 45 126 k (omega arith) (omega arith), tt))
spelled_span (num_word z) = (signed_span 45 126 z (omega arith) (omega arith), tt)
spelled_span (old_word k) = ((omega arith, decimal_span 45 126 k (omega arith) (omega arith)), tt)
spelled_span (new_word k) = ((omega arith, decimal_span 45 126 k (omega arith) (omega arith)), tt)
spelled_span not_word = omega arith
spelled_span imp_word = omega arith
spelled_span eq_word = omega arith
spelled_span le_word = omega arith
spelled_span add_word = omega arith
spelled_span sub_word = omega arith
spelled_span mul_word = omega arith
spelled_span if_word = omega arith
spelled_span stray = tt

words_span : (ws : List Word) → Each (Span 45 126) (flat_map spelled ws)
unfolding flat_map
words_span [] = tt
words_span (w ∷ ws) = each_append (Span 45 126) (spelled w) (flat_map spelled ws) (spelled_span w) (words_span ws)

pub words_free : (ws : List Word) → Each (Free 32) (flat_map spelled ws)
words_free ws = each_free 45 126 32 (flat_map spelled ws) (omega arith) (words_span ws)

pred_span : (p : Pred) → Span 32 126 (text_of_pred p)
unfolding text_of_pred
pred_span p = joined_each (λ b. (32 ≤ b) × (b ≤ 126)) 32 (flat_map spelled (words p)) (omega arith) (each_wider 45 126 32 126 (flat_map spelled (words p)) (omega arith) (omega arith) (words_span (words p)))

pub pred_free : (p : Pred) → Free 44 (text_of_pred p)
unfolding text_of_pred
pred_free p = joined_each (λ b. b ≡ 44 → ⊥) 32 (flat_map spelled (words p)) (λ e. omega arith) (each_free 45 126 44 (flat_map spelled (words p)) (omega arith) (words_span (words p)))

-- lists and trees
decimals_span : (a b : ℕ) (l : List ℕ) → a ≤ 48 → 57 ≤ b → Each (Span a b) (map decimal l)
decimals_span a b [] h k = tt
decimals_span a b (n ∷ ns) h k = (decimal_span a b n h k, decimals_span a b ns h k)

pub decimals_free : (l : List ℕ) → Each (Free 44) (map decimal l)
decimals_free l = each_free 45 57 44 (map decimal l) (omega arith) (decimals_span 45 57 l (omega arith) (omega arith))

list_span : (a b : ℕ) (l : List ℕ) → a ≤ 44 → 57 ≤ b → Span a b (text_of_list l)
unfolding text_of_list
list_span a b l h k = joined_each (λ x. (a ≤ x) × (x ≤ b)) 44 (map decimal l) (omega arith) (decimals_span a b l (omega arith) k)

node_span : (n : Node) → Each (Span 44 126) (spelled_node n)
unfolding spelled_node
node_span par_node = omega arith
node_span (syn_node l) = (omega arith, (list_span 44 126 l (omega arith) (omega arith), tt))
node_span (ini_node p) = (omega arith, each_wider 45 126 44 126 (flat_map spelled (words p)) (omega arith) (omega arith) (words_span (words p)))
node_span (leaf_node k) = ((omega arith, decimal_span 44 126 k (omega arith) (omega arith)), tt)
node_span stray_node = tt

nodes_span : (ns : List Node) → Each (Span 44 126) (flat_map spelled_node ns)
unfolding flat_map
nodes_span [] = tt
nodes_span (n ∷ ns) = each_append (Span 44 126) (spelled_node n) (flat_map spelled_node ns) (node_span n) (nodes_span ns)

pub nodes_free : (ns : List Node) → Each (Free 32) (flat_map spelled_node ns)
nodes_free ns = each_free 44 126 32 (flat_map spelled_node ns) (omega arith) (nodes_span ns)

tree_span : (c : Tree) → Span 32 126 (text_of_tree c)
unfolding text_of_tree
tree_span c = joined_each (λ b. (32 ≤ b) × (b ≤ 126)) 32 (flat_map spelled_node (nodes c)) (omega arith) (each_wider 44 126 32 126 (flat_map spelled_node (nodes c)) (omega arith) (omega arith) (nodes_span (nodes c)))

-- lines
value_span : (e : Entry) → Span 32 126 (value_text e)
unfolding value_text
value_span (format_line n) = decimal_span 32 126 n (omega arith) (omega arith)
value_span (actions_line n) = decimal_span 32 126 n (omega arith) (omega arith)
value_span (variables_line n) = decimal_span 32 126 n (omega arith) (omega arith)
value_span (variable_line x o) =
    joined_each (λ b. (32 ≤ b) × (b ≤ 126)) 44 (signed x.low ∷ signed x.high ∷ []) (omega arith)
    (signed_span 32 126 x.low (omega arith) (omega arith), (signed_span 32 126 x.high (omega arith) (omega arith), tt))
value_span (automata_line n) = decimal_span 32 126 n (omega arith) (omega arith)
value_span (sync_line l) = list_span 32 126 l (omega arith) (omega arith)
value_span (locations_line n) = decimal_span 32 126 n (omega arith) (omega arith)
value_span (init_line p) = pred_span p
value_span (inv_line p) = pred_span p
value_span (edges_line n) = decimal_span 32 126 n (omega arith) (omega arith)
value_span (edge_line e) =
    joined_each (λ b. (32 ≤ b) × (b ≤ 126)) 44 (decimal e.from ∷ decimal e.action ∷ decimal e.to ∷ text_of_pred e.update ∷ []) (omega arith) (
      decimal_span 32 126 e.from (omega arith) (omega arith),
      (
        decimal_span 32 126 e.action (omega arith) (omega arith),
        (decimal_span 32 126 e.to (omega arith) (omega arith), (pred_span e.update, tt)),
      ),
    )
value_span (compose_line c) = tree_span c

spelling_span : (k : Key) → Span 32 126 (spelling k)
unfolding spelling
spelling_span format = omega arith
spelling_span actions = omega arith
spelling_span variables = omega arith
spelling_span variable = omega arith
spelling_span automata = omega arith
spelling_span sync = omega arith
spelling_span locations = omega arith
spelling_span init = omega arith
spelling_span inv = omega arith
spelling_span edges = omega arith
spelling_span edge = omega arith
spelling_span compose = omega arith

pub line_span : (e : Entry) → Span 32 126 (spelling (key_of e) ++ value_text e)
line_span e = each_append (λ b. (32 ≤ b) × (b ≤ 126)) (spelling (key_of e)) (value_text e) (spelling_span (key_of e)) (value_span e)

-- the line `writes=`
pub writes_span : (list : List ℕ) → Span 32 126 (writes_key ++ text_of_list list)
unfolding writes_key
writes_span list = each_append (λ b. (32 ≤ b) × (b ≤ 126)) writes_key (text_of_list list) (omega arith) (list_span 32 126 list (omega arith) (omega arith))

-- the line `owner=`
owner_text_span : (a b : ℕ) (o : Option ℕ) → a ≤ 48 → 111 ≤ b → Span a b (text_of_owner o)
unfolding text_of_owner none_word
owner_text_span a b none h k = omega arith
owner_text_span a b (some n) h k = decimal_span a b n h (omega arith)

pub owner_free : (o : Option ℕ) → Free 44 (text_of_owner o)
owner_free o = span_free 45 126 44 (text_of_owner o) (omega arith) (owner_text_span 45 126 o (omega arith) (omega arith))

pub owner_span : (o : Option ℕ) → Span 32 126 (owner_key ++ text_of_owner o)
unfolding owner_key
owner_span o = each_append (λ b. (32 ≤ b) × (b ≤ 126)) owner_key (text_of_owner o) (omega arith) (owner_text_span 32 126 o (omega arith) (omega arith))
