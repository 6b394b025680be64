-- The text of a tree is read as the tree, if no list in it is empty.
use Prim.Native.Nat.{ℕ}
use mathlib.Core.Path.{◌≡◌, refl, sym, ◌∙◌, ap, ap₂}
use mathlib.Core.Bool.{true, false}
use mathlib.Core.List.{List, [], ◌∷◌, ◌++◌, append_assoc, append-nil, map, map-append, flat_map}
use mathlib.Core.Option.{some}
use native.Mathlib.Omega.{arith}
use lib.Dec.{leb}
use Rattle.model.specs.Basic.{every, or_else, same}
use Rattle.model.specs.Bounds.{max_actions}
use Rattle.model.specs.Predicate as P
use Rattle.model.specs.Predicate.{Pred, all, words}
use Rattle.model.specs.Composition.{Tree, Node, ini, ini_node, leaf, leaf_node, nodes, par, par_node, starts, stray_node, syn, syn_node}
use Rattle.model.specs.Limits.{in_range, lists_filled, tree_in_range}
use Rattle.model.specs.Parse.{read_pred, read_tree, ini_alone, with_starts}
use Rattle.model.proofs.Parsing.{read_nodes_of, read_words_of, bare, given_back}
use Rattle.model.proofs.Tests.{and_left, and_right}
use Rattle.model.proofs.Lists.{flat_append}
use Rattle.format.specs.Bytes.{'a, Bytes, bytes, comma, joined, led_by, parts}
use Rattle.format.specs.Number.{natural_of, decimal, digit}
use Rattle.format.specs.Spelling.{spelled, spelled_node, text_of_list, text_of_tree}
use Rattle.format.specs.Tokens.{find, items, leaf_of, lettered, node, numeral, outside, read_nodes, read_words, start_tokens, starts_in, syn_of, tokens}
use Rattle.format.specs.Tokens as T
use Rattle.format.proofs.BytesLaws.{differ_first, parts_joined}
use Rattle.format.proofs.NumberLaws.{false_true, is_digit, leading}
use Rattle.format.proofs.PredText.{no_stray, tokens_joined}
use Rattle.format.proofs.StartLaws.{eats_tokens, eats_starts, eats_outside, pred_passes, none_wanted, starts_anywhere, outside_anywhere}
use Rattle.format.proofs.Spans.{decimals_free, nodes_free}
use Rattle.format.proofs.TokenLaws.{count_decimal, numeral_digit, plain_by, spelled_read}
use Rattle.format.proofs.TreeText.{ini_plain, node_ini, outside_ini, outside_other, read_node, read_syn, read_composed, read_starts, starts_ini, starts_other}

-- the items of a list are its numbers
pub counts_back : (l : List ℕ) → map natural_of (map decimal l) ≡ l
counts_back [] = refl
counts_back (k ∷ ks) = ap (λ x. x ∷ map natural_of (map decimal ks)) (count_decimal k) ∙ ap (λ t. k ∷ t) (counts_back ks)

pub list_parts : (k : ℕ) (ks : List ℕ) → parts comma (text_of_list (k ∷ ks)) ≡ map decimal (k ∷ ks)
unfolding text_of_list
list_parts k ks = let f = decimals_free (k ∷ ks) in parts_joined comma (decimal k) (map decimal ks) f.0 f.1

pub items_text : (k : ℕ) (ks : List ℕ) → items (text_of_list (k ∷ ks)) ≡ k ∷ ks
unfolding items
items_text k ks = ap (map natural_of) (list_parts k ks) ∙ counts_back (k ∷ ks)

pub numeral_list : (k : ℕ) (ks : List ℕ) → numeral (text_of_list (k ∷ ks)) ≡ T.bare (text_of_list (k ∷ ks))
unfolding text_of_list joined
numeral_list k ks =
    let l = leading k in
    rw l.whole (numeral_digit l.first (l.rest ++ led_by comma (map decimal ks)) l.low l.high)

syn_text : (k : ℕ) (ks : List ℕ) → syn_of (text_of_list (k ∷ ks)) ≡ syn_node (k ∷ ks)
unfolding syn_of
syn_text k ks = rw (numeral_list k ks, syn_of) (ap syn_node (items_text k ks))

pub numeral_a : (c : ℕ) (t : Bytes) → digit c ≡ true → numeral ('a ∷ c ∷ t) ≡ lettered 'a (c ∷ t)
unfolding numeral digit
numeral_a c t h = rw (h, numeral)

pub numeral_leaf : (n : ℕ) → numeral ('a ∷ decimal n) ≡ lettered 'a (decimal n)
numeral_leaf n =
    let l = leading n in
    rw l.whole (numeral_a l.first l.rest (is_digit l.first l.low l.high))

leaf_text : (n : ℕ) → node ('a ∷ decimal n) ≡ leaf_node n
unfolding node leaf_of
leaf_text n =
    rw (numeral_leaf n, node) (ap leaf_node (count_decimal n))

node_par : node (bytes "par") ≡ par_node
unfolding node numeral digit find same
node_par = refl

pub par_plain : same (bytes "par") (bytes "syn") ≡ false
unfolding same
par_plain = refl

pub leaf_plain : (t : Bytes) → same ('a ∷ t) (bytes "syn") ≡ false
unfolding same
leaf_plain t = refl

pub list_not_word : (l : List ℕ) → same (text_of_list l) (bytes "ini") ≡ false
unfolding text_of_list joined
list_not_word [] = unfold same in refl
list_not_word (k ∷ ks) =
    let l = leading k in
    let high = l.high in
    rw l.whole (differ_first l.first 105 (l.rest ++ led_by comma (map decimal ks)) (110 ∷ 105 ∷ []) (λ e. omega arith))

-- the tokens of a node that are C's own
unfoldable pub shape : Node → List Bytes
shape par_node = bytes "par" ∷ []
shape (syn_node list) = bytes "syn" ∷ text_of_list list ∷ []
shape (ini_node p) = bytes "ini" ∷ []
shape (leaf_node k) = ('a ∷ decimal k) ∷ []
shape stray_node = []

abbrev pub flat : Tree → List Bytes
flat c = flat_map spelled_node (nodes c)

abbrev tokens_of : Pred → List Bytes
tokens_of p = flat_map spelled (words p)

-- The tokens of a tree come apart: what is outside of all P, and the P's.
pub record Apart (c : Tree) (b : Bytes) (ts : List Bytes) : Type 0 where
  pub tree : outside 0 b (flat c ++ ts) ≡ flat_map shape (nodes c) ++ outside 0 [] ts
  pub starts_are : starts_in 0 b (flat c ++ ts) ≡ map tokens_of (starts c) ++ starts_in 0 [] ts

-- one token that is no `ini`, in front
module _ (b t : Bytes) (us : List Bytes) (i : same t (bytes "ini") ≡ false) where
  tree_front : (k : List Bytes) → outside 0 t us ≡ k → outside 0 b (t ∷ us) ≡ t ∷ k
  tree_front k e = outside_other b t us i ∙ ap (λ x. t ∷ x) e

  starts_front : (k : List (List Bytes)) → starts_in 0 t us ≡ k → starts_in 0 b (t ∷ us) ≡ k
  starts_front k e = starts_other b t us i ∙ e

pub tree_apart : (c : Tree) (b : Bytes) (ts : List Bytes) → tree_in_range c ≡ true → Apart c b ts
unfolding nodes flat_map spelled_node shape starts tree_in_range same
tree_apart (par c d) b ts h =
    let e : flat_map spelled_node (nodes c ++ nodes d) ++ ts ≡ flat c ++ (flat d ++ ts) = ap (λ l. l ++ ts) (flat_append spelled_node (nodes c) (nodes d)) ∙ append_assoc (flat c) (flat d) ts in
    let x = tree_apart c (bytes "par") (flat d ++ ts) (and_left (tree_in_range c) _ h) in
    let y = tree_apart d [] ts (and_right (tree_in_range c) _ h) in
    let t = ap (outside 0 (bytes "par")) e ∙ x.tree ∙ ap (λ l. flat_map shape (nodes c) ++ l) y.tree ∙ sym (append_assoc (flat_map shape (nodes c)) (flat_map shape (nodes d)) (outside 0 [] ts)) ∙ ap (λ l. l ++ outside 0 [] ts) (sym (flat_append shape (nodes c) (nodes d))) in
    let s = ap (starts_in 0 (bytes "par")) e ∙ x.starts_are ∙ ap (λ l. map tokens_of (starts c) ++ l) y.starts_are ∙ sym (append_assoc (map tokens_of (starts c)) (map tokens_of (starts d)) (starts_in 0 [] ts)) ∙ ap (λ l. l ++ starts_in 0 [] ts) (sym (map-append tokens_of (starts c) (starts d))) in
    record { tree = tree_front b (bytes "par") (flat_map spelled_node (nodes c ++ nodes d) ++ ts) refl _ t; starts_are = starts_front b (bytes "par") (flat_map spelled_node (nodes c ++ nodes d) ++ ts) refl _ s }
tree_apart (syn list c) b ts h =
    let x = tree_apart c (text_of_list list) ts (and_right (every (λ k. leb k max_actions) list) _ h) in
    let i = list_not_word list in
    record {
      tree = tree_front b (bytes "syn") (text_of_list list ∷ (flat c ++ ts)) refl _ (tree_front (bytes "syn") (text_of_list list) (flat c ++ ts) i _ x.tree);
      starts_are = starts_front b (bytes "syn") (text_of_list list ∷ (flat c ++ ts)) refl _ (starts_front (bytes "syn") (text_of_list list) (flat c ++ ts) i _ x.starts_are);
    }
tree_apart (ini p c) b ts h =
    let more = flat c ++ ts in
    let e = append_assoc (tokens_of p) (flat c) ts in
    let g = pred_passes p 0 (bytes "ini") (plain_by (bytes "ini") refl refl refl) (and_left (every in_range (words p)) _ h) in
    let x = tree_apart c g.last ts (and_right (every in_range (words p)) _ h) in
    let ended : start_tokens 0 g.last more ≡ [] = none_wanted g.last more in
    record {
      tree = ap (λ l. outside 0 b (bytes "ini" ∷ l)) e ∙ outside_ini b (tokens_of p ++ more) ∙ ap (λ l. bytes "ini" ∷ l) (eats_outside g.eats more ∙ x.tree);
      starts_are =
          ap (λ l. starts_in 0 b (bytes "ini" ∷ l)) e ∙ starts_ini b (tokens_of p ++ more)
          ∙ ap (λ l. l ∷ starts_in 1 (bytes "ini") (tokens_of p ++ more)) (eats_tokens g.eats more ∙ ap (λ l. tokens_of p ++ l) ended ∙ append-nil (tokens_of p))
          ∙ ap (λ l. tokens_of p ∷ l) (eats_starts g.eats more ∙ x.starts_are);
    }
tree_apart (leaf k) b ts h =
    record {
      tree = tree_front b ('a ∷ decimal k) ts refl (outside 0 [] ts) (outside_anywhere ts ('a ∷ decimal k) []);
      starts_are = starts_front b ('a ∷ decimal k) ts refl _ (starts_anywhere ts ('a ∷ decimal k) []);
    }

-- C's own tokens are read as the nodes, without their P's
shape_read : (c : Tree) (ts : List Bytes) → lists_filled c ≡ true → read_nodes (flat_map shape (nodes c) ++ ts) ≡ map bare (nodes c) ++ read_nodes ts
unfolding nodes flat_map shape lists_filled bare
shape_read (par c d) ts h =
    read_node (bytes "par") (flat_map shape (nodes c ++ nodes d) ++ ts) par_plain ∙
    ap (λ x. x ∷ read_nodes (flat_map shape (nodes c ++ nodes d) ++ ts)) node_par ∙
    ap (λ l. par_node ∷ l)
    (ap (λ l. read_nodes (l ++ ts)) (flat_append shape (nodes c) (nodes d)) ∙
    ap read_nodes (append_assoc (flat_map shape (nodes c)) (flat_map shape (nodes d)) ts) ∙
    shape_read c (flat_map shape (nodes d) ++ ts) (and_left (lists_filled c) (lists_filled d) h) ∙
    ap (λ l. map bare (nodes c) ++ l) (shape_read d ts (and_right (lists_filled c) (lists_filled d) h)) ∙
    sym (append_assoc (map bare (nodes c)) (map bare (nodes d)) (read_nodes ts)) ∙
    ap (λ l. l ++ read_nodes ts) (sym (map-append bare (nodes c) (nodes d))))
shape_read (syn [] c) ts h = absurd (false_true h)
shape_read (syn (k ∷ ks) c) ts h =
    read_syn (text_of_list (k ∷ ks)) (flat_map shape (nodes c) ++ ts) ∙ ap (λ x. x ∷ read_nodes (flat_map shape (nodes c) ++ ts)) (syn_text k ks) ∙ ap (λ l. syn_node (k ∷ ks) ∷ l) (shape_read c ts h)
shape_read (ini p c) ts h =
    read_node (bytes "ini") (flat_map shape (nodes c) ++ ts) ini_plain ∙ ap (λ x. x ∷ read_nodes (flat_map shape (nodes c) ++ ts)) node_ini ∙ ap (λ l. ini_alone ∷ l) (shape_read c ts h)
shape_read (leaf k) ts h = read_node ('a ∷ decimal k) ts (leaf_plain (decimal k)) ∙ ap (λ x. x ∷ read_nodes ts) (leaf_text k)

first_token : (c : Tree) → (t : Bytes) × (ts : List Bytes) × (flat_map spelled_node (nodes c) ≡ t ∷ ts)
unfolding flat_map spelled_node nodes
first_token (par c d) = (_, _, refl)
first_token (syn l c) = (_, _, refl)
first_token (ini p c) = (_, _, refl)
first_token (leaf k) = (_, _, refl)

pub tree_tokens_lem : (c : Tree) → tokens (text_of_tree c) ≡ flat_map spelled_node (nodes c)
unfolding text_of_tree
tree_tokens_lem c = let f = first_token c in tokens_joined (flat_map spelled_node (nodes c)) f.0 f.1 f.2 (nodes_free (nodes c))

-- the whole text
module _ (c : Tree) (ranged : tree_in_range c ≡ true) where
  whole : Apart c [] []
  whole = tree_apart c [] [] ranged

  text_tokens : tokens (text_of_tree c) ≡ flat c ++ []
  text_tokens = tree_tokens_lem c ∙ sym (append-nil (flat c))

  pub text_outside : outside 0 [] (tokens (text_of_tree c)) ≡ flat_map shape (nodes c) ++ []
  unfolding outside
  text_outside = ap (outside 0 []) text_tokens ∙ whole.tree

  starts_read : (ps : List Pred) → map (λ (l : List Bytes). read_pred (read_words l)) (map tokens_of ps) ≡ map some ps
  starts_read [] = refl
  starts_read (p ∷ ps) = ap₂ (λ x l. x ∷ l) (ap read_pred (spelled_read (words p) (no_stray p)) ∙ read_words_of p) (starts_read ps)

  -- each P is read
  pub text_starts : read_starts [] (tokens (text_of_tree c)) ≡ map some (starts c)
  unfolding starts_in
  text_starts =
      ap (map (λ (l : List Bytes). read_pred (read_words l))) (ap (starts_in 0 []) text_tokens ∙ whole.starts_are ∙ append-nil (map tokens_of (starts c)))
      ∙ starts_read (starts c)

  some_preds : (ps : List Pred) → map (or_else (all P.none)) (map some ps) ≡ ps
  unfolding or_else
  some_preds [] = refl
  some_preds (p ∷ ps) = ap (λ l. p ∷ l) (some_preds ps)

  pub text_preds : map (or_else (all P.none)) (read_starts [] (tokens (text_of_tree c))) ≡ starts c
  text_preds = ap (map (or_else (all P.none))) text_starts ∙ some_preds (starts c)

  pub tree_nodes : lists_filled c ≡ true → read_composed [] (tokens (text_of_tree c)) ≡ nodes c
  unfolding read_nodes
  tree_nodes h =
      ap (λ (ps : List Pred). with_starts ps (read_nodes (outside 0 [] (tokens (text_of_tree c))))) text_preds
      ∙ ap (λ (l : List Bytes). with_starts (starts c) (read_nodes l)) text_outside
      ∙ ap (with_starts (starts c)) (shape_read c [] h ∙ append-nil (map bare (nodes c)))
      ∙ given_back c

  -- a tree with no empty list is read from its text
  pub tree_read : lists_filled c ≡ true → read_tree (read_composed [] (tokens (text_of_tree c))) ≡ some c
  tree_read h = ap read_tree (tree_nodes h) ∙ read_nodes_of c
