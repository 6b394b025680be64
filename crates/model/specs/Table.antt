-- The table of a model (docs/TABLE.md): line after line as words, then zeros up to 16,384 words.
use Rattle.std.specs.Prelude.{ℕ, zero, suc, ◌+◌, ◌-◌, ◌*◌, ◌/◌, ◌%◌, ◌^◌, Bool, true, false, ◌&&◌, length, get_or, take}
use Rattle.std.specs.Prelude.{drop, replicate, ℤ, pos, negsuc, eqb, leb, ltb}
use mathlib.Core.List.{List, [], ◌∷◌, ◌++◌, map, flat_map}
use Rattle.std.proofs.Math.Option.{Option, none, some}
use Rattle.model.specs.Basic.{keep, same, count_up, on_some, lacks}
use Rattle.model.specs.Bounds.{table_words, bias, first_number_word}
use Rattle.model.specs.Predicate.{Pred, range, Word, words, node_count, all_of, any_of, not_word, imp_word}
use Rattle.model.specs.Predicate.{eq_word, le_word, num_word, old_word, new_word, add_word, sub_word, mul_word, if_word}
use Rattle.model.specs.Predicate.{stray}
use Rattle.model.specs.Composition.{Tree, Node, nodes, starts, tree_size, par_node, syn_node, ini_node, leaf_node}
use Rattle.model.specs.Composition as C
use Rattle.model.specs.Parse.{read_pred, read_tree, ini_alone, with_starts}
use Rattle.model.specs.Model.{Model}
use Rattle.model.specs.Lines.{Key, Entry, format, actions, variables, variable, automata, sync, locations, init}
use Rattle.model.specs.Lines.{inv, edges, edge, compose, format_line, actions_line, variables_line, variable_line}
use Rattle.model.specs.Lines.{automata_line, sync_line, locations_line, init_line, inv_line, edges_line, edge_line}
use Rattle.model.specs.Lines.{compose_line, lines, due_at_first, then_due, Reading, at_first, noted}
use Rattle.model.specs.Limits.{fault_of, limits}

-- a number, moved up so that none is negative
unfoldable pub biased : ℤ → ℕ
biased (pos n) = bias + n
biased (negsuc n) = bias - suc n

-- a set as two words: bit K of the first for action K from 0 to 31, bit K - 32 of the second for 32 to 63
unfoldable pub low_bits : List ℕ → ℕ
low_bits [] = 0
low_bits (k ∷ ks) = elim (leb k 31) [ true ↦ 2 ^ k + low_bits ks | false ↦ low_bits ks ]

unfoldable pub high_bits : List ℕ → ℕ
high_bits [] = 0
high_bits (k ∷ ks) = elim (leb k 31) [ true ↦ high_bits ks | false ↦ 2 ^ (k - 32) + high_bits ks ]

unfoldable pub set_words : List ℕ → List ℕ
set_words list = low_bits list ∷ high_bits list ∷ []

-- A node of a predicate is one word. A number has the words from `first_number_word` on; any other node has a kind
-- and an argument in a word below. Code that reads or makes such words calls the crate node_words, and proofs cite its
-- laws: nobody else looks into a node's word.
unfoldable pub node_word : (kind argument : ℕ) → ℕ
node_word kind k = kind + 16 * k

unfoldable pub kind_of : (word : ℕ) → ℕ
kind_of w = w % 16

unfoldable pub argument_of : (word : ℕ) → ℕ
argument_of w = w / 16

unfoldable pub code : Word → ℕ
code (all_of k) = node_word 0 k
code (any_of k) = node_word 1 k
code not_word = node_word 2 0
code imp_word = node_word 3 0
code eq_word = node_word 4 0
code le_word = node_word 5 0
code (num_word z) = first_number_word + biased z
code (old_word k) = node_word 7 k
code (new_word k) = node_word 8 k
code add_word = node_word 9 0
code sub_word = node_word 10 0
code mul_word = node_word 11 0
code if_word = node_word 12 0
code stray = node_word 15 0

unfoldable pub pred_words : Pred → List ℕ
pred_words p = node_count p ∷ map code (words p)

-- A node of the tree: `par` is 0; `syn` is 1 and its set in two words; leaf K is 2 + K. An `ini` adds no action to the
-- set of what it stands over, and its words are those of a `syn` with no action, which no sheet has (row 13): so
-- whoever asks for sets and edges need not know of it. Its P stands behind the tree.
unfoldable pub node_words : Node → List ℕ
node_words par_node = 0 ∷ []
node_words (syn_node list) = 1 ∷ set_words list
node_words (ini_node p) = 1 ∷ set_words []
node_words (leaf_node k) = (2 + k) ∷ []
node_words C.stray_node = []

-- behind the tree: how many `ini` it has, and their P's in tree order
unfoldable pub start_words : Tree → List ℕ
start_words c = length (starts c) ∷ flat_map pred_words (starts c)

-- nobody is 0, automaton K is K + 1
unfoldable pub owner_word : Option ℕ → ℕ
owner_word none = 0
owner_word (some k) = suc k

unfoldable pub line_words : Entry → List ℕ
line_words (format_line n) = n ∷ []
line_words (actions_line n) = n ∷ []
line_words (variables_line n) = n ∷ []
line_words (variable_line x o) = biased x.low ∷ biased x.high ∷ owner_word o ∷ []
line_words (automata_line n) = n ∷ []
line_words (sync_line list) = set_words list
line_words (locations_line n) = n ∷ []
line_words (init_line p) = pred_words p
line_words (inv_line p) = pred_words p
line_words (edges_line n) = n ∷ []
line_words (edge_line e) = e.from ∷ e.action ∷ e.to ∷ pred_words e.update
line_words (compose_line c) = tree_size c ∷ flat_map node_words (nodes c) ++ start_words c

unfoldable pub sheet_words : Model → List ℕ
sheet_words m = flat_map line_words (lines m)

unfoldable pub table_of : Model → List ℕ
table_of m = sheet_words m ++ replicate (table_words - length (sheet_words m)) 0

-- The way back. Each step takes an entry's words off the front; what they say is tested at the end, by `model_of`.
unfoldable pub unbiased : ℕ → ℤ
unbiased n = elim (leb bias n) [ true ↦ pos (n - bias) | false ↦ negsuc (bias - suc n) ]

unfoldable pub bit : ℕ → ℕ → Bool
bit word k = eqb (word / 2 ^ k % 2) 1

unfoldable pub set_of : (low high : ℕ) → List ℕ
set_of low high = keep (bit low) (count_up 0 32) ++ keep (λ k. bit high (k - 32)) (count_up 32 32)

-- the words by their kinds, all with one argument; the kind 6 is no word's
unfoldable pub kinds : ℕ → List Word
kinds k =
    all_of k ∷ any_of k ∷ not_word ∷ imp_word ∷ eq_word ∷ le_word ∷ stray ∷ old_word k ∷ new_word k ∷ add_word ∷
    sub_word ∷ mul_word ∷ if_word ∷ []

unfoldable pub word_of : ℕ → Word
word_of w =
    elim (leb first_number_word w) [
      | true ↦ num_word (unbiased (w - first_number_word))
      | false ↦ get_or (kinds (argument_of w)) (kind_of w) stray
    ]

-- what was taken, and the words that are left
pub record Split (A : Type 0) : Type 0 where
  pub item : A
  pub rest : List ℕ

unfoldable pub split : {A : Type 0} → A → List ℕ → Option (Split A)
split a ws = some (record { item = a; rest = ws })

unfoldable pub split_number : (ℕ → Entry) → List ℕ → Option (Split Entry)
split_number f [] = none
split_number f (n ∷ ws) = split (f n) ws

unfoldable pub split_pair : (ℕ → ℕ → Entry) → List ℕ → Option (Split Entry)
split_pair f [] = none
split_pair f (a ∷ []) = none
split_pair f (a ∷ b ∷ ws) = split (f a b) ws

unfoldable pub owner_from : ℕ → Option ℕ
owner_from zero = none
owner_from (suc k) = some k

unfoldable pub split_variable : List ℕ → Option (Split Entry)
split_variable [] = none
split_variable (a ∷ []) = none
split_variable (a ∷ b ∷ []) = none
split_variable (a ∷ b ∷ c ∷ ws) = split (variable_line (range (unbiased a) (unbiased b)) (owner_from c)) ws

unfoldable pub split_pred : (Pred → Entry) → List ℕ → Option (Split Entry)
split_pred f [] = none
split_pred f (n ∷ ws) = on_some (λ p. split (f p) (drop n ws)) (read_pred (map word_of (take n ws)))

unfoldable pub edge_to : ℕ → ℕ → ℕ → Pred → Entry
edge_to from action to p = edge_line (record { from = from; action = action; to = to; update = p })

unfoldable pub split_edge : List ℕ → Option (Split Entry)
split_edge [] = none
split_edge (a ∷ []) = none
split_edge (a ∷ b ∷ []) = none
split_edge (a ∷ b ∷ c ∷ ws) = split_pred (edge_to a b c) ws

unfoldable pub and_node : Node → Option (Split (List Node)) → Option (Split (List Node))
and_node node others = on_some (λ t. split (node ∷ t.item) t.rest) others

-- an `ini`, whose P is not known yet, or a `syn`
unfoldable pub over_node : List ℕ → Node
over_node [] = ini_alone
over_node (k ∷ ks) = syn_node (k ∷ ks)

unfoldable pub split_nodes : ℕ → List ℕ → Option (Split (List Node))
split_nodes zero ws = split [] ws
split_nodes (suc n) [] = none
split_nodes (suc n) (zero ∷ ws) = and_node par_node (split_nodes n ws)
split_nodes (suc n) (suc zero ∷ []) = none
split_nodes (suc n) (suc zero ∷ a ∷ []) = none
split_nodes (suc n) (suc zero ∷ a ∷ b ∷ ws) = and_node (over_node (set_of a b)) (split_nodes n ws)
split_nodes (suc n) (suc (suc k) ∷ ws) = and_node (leaf_node k) (split_nodes n ws)

unfoldable pub and_pred : Pred → Option (Split (List Pred)) → Option (Split (List Pred))
and_pred p others = on_some (λ t. split (p ∷ t.item) t.rest) others

unfoldable pub split_preds : ℕ → List ℕ → Option (Split (List Pred))
split_preds zero ws = split [] ws
split_preds (suc k) [] = none
split_preds (suc k) (n ∷ ws) =
    on_some (λ p. and_pred p (split_preds k (drop n ws))) (read_pred (map word_of (take n ws)))

unfoldable pub split_starts : List ℕ → Option (Split (List Pred))
split_starts [] = none
split_starts (k ∷ ws) = split_preds k ws

unfoldable pub tree_with : List Node → Split (List Pred) → Option (Split Entry)
tree_with ns s = on_some (λ c. split (compose_line c) s.rest) (read_tree (with_starts s.item ns))

unfoldable pub split_tree : List ℕ → Option (Split Entry)
split_tree [] = none
split_tree (n ∷ ws) = on_some (λ t. on_some (λ s. tree_with t.item s) (split_starts t.rest)) (split_nodes n ws)

unfoldable pub split_entry : Key → List ℕ → Option (Split Entry)
split_entry format ws = split_number format_line ws
split_entry actions ws = split_number actions_line ws
split_entry variables ws = split_number variables_line ws
split_entry variable ws = split_variable ws
split_entry automata ws = split_number automata_line ws
split_entry sync ws = split_pair (λ a b. sync_line (set_of a b)) ws
split_entry locations ws = split_number locations_line ws
split_entry init ws = split_pred init_line ws
split_entry inv ws = split_pred inv_line ws
split_entry edges ws = split_number edges_line ws
split_entry edge ws = split_edge ws
split_entry compose ws = split_tree ws

-- each line takes a word at least, so a table of so many words has no more lines; a line that breaks a row ends it
unfoldable pub decode : ℕ → Reading → List Key → List ℕ → Option Model
decode zero r [] ws = some r.model
decode zero r (k ∷ ks) ws = none
decode (suc n) r [] ws = some r.model
decode (suc n) r (k ∷ ks) ws =
    on_some
    (λ t.
    elim (lacks (fault_of r t.item)) [
      | true ↦ decode n (noted r t.item) (then_due r.model.format t.item ++ ks) t.rest
      | false ↦ none
    ])
    (split_entry k ws)

-- do the first 16,384 words of t make up the table of m?
unfoldable pub is_table_of : List ℕ → Model → Bool
is_table_of t m = limits m && same (take table_words t) (table_of m)

-- the model whose table this is
unfoldable pub model_of : List ℕ → Option Model
model_of t =
    on_some (λ m. elim (is_table_of t m) [ true ↦ some m | false ↦ none ]) (decode table_words at_first due_at_first t)

-- Row 18, for a table of so many words. Row 19: it is no model's table, and so no text's (the law given_by_text).
unfoldable pub row18 : (words : ℕ) → Bool
row18 words = ltb words table_words

unfoldable pub row19 : List ℕ → Bool
row19 t = lacks (model_of t)

-- what every function over a table tries first
pub data Opened : Type 0 where
  unopened : ℕ → Opened
  opened : Model → Opened

unfoldable pub open_table : List ℕ → Opened
open_table t =
    elim (row18 (length t)) [
      | true ↦ unopened 18
      | false ↦ elim (model_of t) [ none ↦ unopened 19 | some m ↦ opened m ]
    ]
