-- On the words of a model's lines the writer writes the model's text.
use Prim.Native.Nat.{ℕ, suc, ◌+◌, ◌≤◌}
use mathlib.Core.Path.{◌≡◌, refl, sym, ◌∙◌, ap, ap₂}
use mathlib.Core.Bool.{Bool, true, false, not, ◌&&◌, true≢false}
use mathlib.Core.List.{List, [], ◌∷◌, ◌++◌, map, flat_map, append_assoc, append-nil}
use native.Mathlib.Omega.{arith}
use borrow.Author.Tests.{eqb-true, ne_eqb}
use lib.Dec.{eqb, leb}
use lib.ListN.{length, take, drop, length-map}
use lib.Seq.{take_at, drop_at}
use Rattle.model.specs.Basic.{every, same, keep, count_up}
use Rattle.model.specs.Bounds.{max_actions, max_tree_nodes}
use Rattle.model.specs.Predicate.{Pred, all, any, negate, imp, eq, le, Word, words, node_count, all_of, any_of, not_word, imp_word, eq_word, le_word, num_word, old_word, new_word, add_word, sub_word, mul_word, if_word, stray, written}
use Rattle.model.specs.Composition.{Tree, Node, nodes, starts, tree_size, par, syn, ini, leaf, par_node, syn_node, ini_node, leaf_node, stray_node}
use Rattle.model.specs.Lines.{compose_line}
use Rattle.model.specs.Limits.{in_range, tree_in_range, rises, tree_rises, lists_filled}
use Rattle.model.specs.Table.{code, low_bits, high_bits, bit, set_of, set_words, node_words, pred_words, start_words, line_words}
use Rattle.model.proofs.Tests.{and_intro, and_left, and_right, every_append}
use Rattle.model.proofs.Lists.{same_of, same_self, flat_append}
use Rattle.model.proofs.Decode.{word_back}
use Rattle.model.proofs.Bits.{set_back}
use Rattle.format.specs.Bytes.{Bytes, bytes, led_by, joined, LF, space, 'a}
use Rattle.format.specs.Number.{decimal}
use Rattle.format.specs.Spelling.{spelled, spelled_node, text_of_list, text_of_pred, text_of_tree, writes_key}
use Rattle.table_places.proofs.StartLaws.{first_start_lem}
use Rattle.table_writes.specs.Sets.{written_set}
use Rattle.table_writes.proofs.WrittenLaws.{written_set_lem}
use Rattle.write_words.specs.NodeText.{word_text, words_text, predicate_text, members_text, is_ini, over_text, node_by, node_text, size_by, node_size, starts_after, node_texts}
use Rattle.write_words.specs.Text.{starts_behind, tree_text, writes_text}
use Rattle.format.proofs.BytesLaws.{led_append}
use Rattle.write_words.proofs.JoinLaws.{is_none}

-- Items that are joined from parts, and then joined: all parts joined. No item is empty.
module _ {A : Type 0} (c : ℕ) (f : A → List Bytes) where
  abbrev some_part : A → Bool
  some_part x = not (is_none (f x))

  led_one : (l : List Bytes) → not (is_none l) ≡ true → c ∷ joined c l ≡ led_by c l
  unfolding is_none joined led_by
  led_one [] h = absurd (true≢false (sym h))
  led_one (y ∷ ys) h = refl

  led_parts : (xs : List A) → every some_part xs ≡ true → led_by c (map (λ x. joined c (f x)) xs) ≡ led_by c (flat_map f xs)
  unfolding led_by every flat_map
  led_parts [] h = refl
  led_parts (x ∷ xs) h =
      ap₂ (λ (a b : Bytes). a ++ b) (led_one (f x) (and_left (some_part x) _ h)) (led_parts xs (and_right (some_part x) _ h)) ∙
      sym (led_append c (f x) (flat_map f xs))

  joined_append : (l k : List Bytes) → not (is_none l) ≡ true → joined c (l ++ k) ≡ joined c l ++ led_by c k
  unfolding is_none joined led_by
  joined_append [] k h = absurd (true≢false (sym h))
  joined_append (y ∷ ys) k h = ap (λ (b : Bytes). y ++ b) (led_append c ys k) ∙ sym (append_assoc y (led_by c ys) (led_by c k))

  pub joined_parts : (xs : List A) → every some_part xs ≡ true → joined c (map (λ x. joined c (f x)) xs) ≡ joined c (flat_map f xs)
  unfolding joined every flat_map
  joined_parts [] h = refl
  joined_parts (x ∷ xs) h =
      ap (λ (b : Bytes). joined c (f x) ++ b) (led_parts xs (and_right (some_part x) _ h)) ∙
      sym (joined_append (f x) (flat_map f xs) (and_left (some_part x) _ h))

every_weaker : {A : Type 0} (p q : A → Bool) → ((x : A) → p x ≡ true → q x ≡ true) → (l : List A) → every p l ≡ true → every q l ≡ true
unfolding every
every_weaker p q f [] h = refl
every_weaker p q f (x ∷ l) h = and_intro (f x (and_left (p x) _ h)) (every_weaker p q f l (and_right (p x) _ h))

-- predicates
some_word : (w : Word) → in_range w ≡ true → not (is_none (spelled w)) ≡ true
unfolding in_range spelled is_none
some_word (all_of k) h = refl
some_word (any_of k) h = refl
some_word not_word h = refl
some_word imp_word h = refl
some_word eq_word h = refl
some_word le_word h = refl
some_word (num_word z) h = refl
some_word (old_word k) h = refl
some_word (new_word k) h = refl
some_word add_word h = refl
some_word sub_word h = refl
some_word mul_word h = refl
some_word if_word h = refl
some_word stray h = absurd (true≢false (sym h))

words_coded : (ws : List Word) → every in_range ws ≡ true → map word_text (map code ws) ≡ map (λ w. joined space (spelled w)) ws
unfolding every word_text
words_coded [] h = refl
words_coded (w ∷ ws) h =
    ap₂ (λ (x : Bytes) (xs : List Bytes). x ∷ xs) (ap (λ (v : Word). joined space (spelled v)) (word_back w (and_left (in_range w) _ h))) (words_coded ws (and_right (in_range w) _ h))

-- its nodes, before some rest
first_nodes : (p : Pred) (rest : List ℕ) → take (node_count p) (map code (words p) ++ rest) ≡ map code (words p)
unfolding node_count
first_nodes p rest = take_at (map code (words p)) rest (length (words p)) (length-map (words p) code)

pub predicate_text_lem : (p : Pred) (rest : List ℕ) → every in_range (words p) ≡ true → predicate_text (pred_words p ++ rest) ≡ text_of_pred p
unfolding predicate_text pred_words text_of_pred words_text
predicate_text_lem p rest h =
    ap (λ (l : List ℕ). joined space (map word_text l)) (first_nodes p rest) ∙
    ap (joined space) (words_coded (words p) h) ∙
    joined_parts space spelled (words p) (every_weaker in_range (λ w. not (is_none (spelled w))) some_word (words p) h)

-- what it writes: the list behind an edge, three numbers standing before the update
pub writes_text_lem : (from act to : ℕ) (p : Pred) (rest : List ℕ) → every in_range (words p) ≡ true → writes_text (from ∷ act ∷ to ∷ pred_words p ++ rest) ≡ writes_key ++ (text_of_list (written p) ++ LF ∷ [])
unfolding writes_text pred_words members_text
writes_text_lem from act to p rest h =
    ap (λ (l : List ℕ). writes_key ++ text_of_list (keep (bit (written_set l)) (count_up 0 64)) ++ (LF ∷ [])) (first_nodes p rest) ∙
    ap (λ (l : List ℕ). writes_key ++ text_of_list l ++ (LF ∷ [])) (written_set_lem p h) ∙
    append_assoc writes_key (text_of_list (written p)) (LF ∷ [])

-- past its nodes
pub past_nodes : (p : Pred) (rest : List ℕ) → drop (node_count p) (map code (words p) ++ rest) ≡ rest
unfolding node_count
past_nodes p rest = drop_at (map code (words p)) rest (length (words p)) (length-map (words p) code)

-- it has a token, so after a word its text is led by a space
some_token : (p : Pred) → not (is_none (flat_map spelled (words p))) ≡ true
unfolding words flat_map spelled is_none
some_token (all ps) = refl
some_token (any ps) = refl
some_token (negate p) = refl
some_token (imp p q) = refl
some_token (eq x y) = refl
some_token (le x y) = refl

led_predicate : (p : Pred) → space ∷ text_of_pred p ≡ led_by space (flat_map spelled (words p))
unfolding text_of_pred
led_predicate p = led_one space spelled (flat_map spelled (words p)) (some_token p)

-- trees: a set is read back from its words, and has an action, so that it is no `ini`; the numbers of a P are in range
unfoldable readable : Node → Bool
readable par_node = true
readable (syn_node list) = same (set_of (low_bits list) (high_bits list)) list && not (is_none list)
readable (ini_node p) = every in_range (words p)
readable (leaf_node k) = true
readable stray_node = false

tree_readable : (A : ℕ) (c : Tree) → tree_rises A c ≡ true → lists_filled c ≡ true → tree_in_range c ≡ true → every readable (nodes c) ≡ true
unfolding every readable nodes tree_rises lists_filled tree_in_range is_none
tree_readable A (par c d) r f h =
    rw (every_append readable (nodes c) (nodes d))
    (and_intro (tree_readable A c (and_left (tree_rises A c) _ r) (and_left (lists_filled c) _ f) (and_left (tree_in_range c) _ h))
    (tree_readable A d (and_right (tree_rises A c) _ r) (and_right (lists_filled c) _ f) (and_right (tree_in_range c) _ h)))
tree_readable A (syn [] c) r f h = absurd (true≢false (sym f))
tree_readable A (syn (k ∷ ks) c) r f h =
    let list = k ∷ ks in
    let ranged = every (λ k. leb k max_actions) list in
    let back = set_back A list (and_left (rises A 0 list) _ r) (and_left ranged _ h) in
    let alike : same (set_of (low_bits list) (high_bits list)) list ≡ true = rw back (same_self list) in
    and_intro (and_intro alike refl) (tree_readable A c (and_right (rises A 0 list) _ r) f (and_right ranged _ h))
tree_readable A (ini p c) r f h =
    and_intro (and_left (every in_range (words p)) _ h) (tree_readable A c r f (and_right (every in_range (words p)) _ h))
tree_readable A (leaf k) r f h = refl

some_node : (n : Node) → readable n ≡ true → not (is_none (spelled_node n)) ≡ true
unfolding readable spelled_node is_none
some_node par_node h = refl
some_node (syn_node list) h = refl
some_node (ini_node p) h = refl
some_node (leaf_node k) h = refl
some_node stray_node h = absurd (true≢false (sym h))

-- the words of a set with an action are not those of none
no_action : set_of 0 0 ≡ []
unfolding set_of keep bit count_up
no_action = refl

some_action : (list : List ℕ) (low high : ℕ) → set_of low high ≡ list → not (is_none list) ≡ true → (eqb low 0 && eqb high 0) ≡ false
unfolding is_none
some_action list low high e f = go (eqb low 0 && eqb high 0) refl
  where
    go : (b : Bool) → (eqb low 0 && eqb high 0) ≡ b → b ≡ false
    go false h = refl
    go true h =
        let l = eqb-true low 0 (and_left (eqb low 0) _ h) in
        let k = eqb-true high 0 (and_right (eqb low 0) _ h) in
        let none : [] ≡ list = sym no_action ∙ ap₂ set_of (sym l) (sym k) ∙ e in
        absurd (true≢false (sym (ap (λ (x : List ℕ). not (is_none x)) none ∙ f)))

leaf_other : (k : ℕ) (ws : List ℕ) → is_ini (suc (suc k) ∷ ws) ≡ false
unfolding is_ini
leaf_other k ws = rw (ne_eqb (suc (suc k)) 1 (λ e. omega arith))

-- the P of a node, and of all nodes
unfoldable own : Node → List Pred
own par_node = []
own (syn_node list) = []
own (ini_node p) = p ∷ []
own (leaf_node k) = []
own stray_node = []

own_starts : (c : Tree) → flat_map own (nodes c) ≡ starts c
unfolding flat_map own nodes starts
own_starts (par c d) = flat_append own (nodes c) (nodes d) ∙ ap₂ (λ (k l : List Pred). k ++ l) (own_starts c) (own_starts d)
own_starts (syn list c) = own_starts c
own_starts (ini p c) = ap (λ (l : List Pred). p ∷ l) (own_starts c)
own_starts (leaf k) = refl

-- what the words of nodes spell, their P's standing in order
nodes_text : (ns : List Node) (rest behind : List ℕ) → every readable ns ≡ true
    → node_texts (length ns) (flat_map node_words ns ++ rest) (flat_map pred_words (flat_map own ns) ++ behind) ≡ map (λ n. joined space (spelled_node n)) ns
unfolding every readable node_texts flat_map own node_words set_words low_bits high_bits node_text node_by node_size size_by is_ini over_text starts_after pred_words spelled_node joined led_by
nodes_text [] rest behind h = refl
nodes_text (par_node ∷ ns) rest behind h = ap (λ (l : List Bytes). (bytes "par" ++ []) ∷ l) (nodes_text ns rest behind h)
nodes_text (syn_node list ∷ ns) rest behind h =
    let low = low_bits list in
    let high = high_bits list in
    let good = same (set_of low high) list && not (is_none list) in
    let back : set_of low high ≡ list = same_of (set_of low high) list (and_left (same (set_of low high) list) _ (and_left good _ h)) in
    let over : (eqb low 0 && eqb high 0) ≡ false = some_action list low high back (and_right (same (set_of low high) list) _ (and_left good _ h)) in
    let later = nodes_text ns rest behind (and_right good _ h) in
    rw over (ap₂ (λ (x : Bytes) (l : List Bytes). x ∷ l) (ap (λ (s : List ℕ). bytes "syn " ++ text_of_list s) back ∙ ap (λ (s : Bytes). bytes "syn " ++ s) (sym (append-nil (text_of_list list)))) later)
nodes_text (ini_node p ∷ ns) rest behind h =
    let ranged = every in_range (words p) in
    let others = flat_map pred_words (flat_map own ns) ++ behind in
    let ws = flat_map node_words ns ++ rest in
    let text : predicate_text (pred_words p ++ others) ≡ text_of_pred p = predicate_text_lem p others (and_left ranged _ h) in
    let later = nodes_text ns rest behind (and_right ranged _ h) in
    rw (append_assoc (pred_words p) (flat_map pred_words (flat_map own ns)) behind)
    (ap₂ (λ (x : Bytes) (l : List Bytes). x ∷ l) (ap (λ (t : Bytes). bytes "ini " ++ t) text ∙ ap (λ (t : Bytes). bytes "ini" ++ t) (led_predicate p))
    (ap (node_texts (length ns) ws) (past_nodes p others) ∙ later))
nodes_text (leaf_node k ∷ ns) rest behind h =
    let e : 2 + k ≡ suc (suc k) = omega arith in
    let ws = flat_map node_words ns ++ rest in
    let others = flat_map pred_words (flat_map own ns) ++ behind in
    let later = ap (λ (b : Bool). node_texts (length ns) ws (starts_after b others)) (leaf_other k ws) ∙ nodes_text ns rest behind h in
    rw e (ap₂ (λ (x : Bytes) (l : List Bytes). x ∷ l) (sym (append-nil ('a ∷ decimal k))) later)
nodes_text (stray_node ∷ ns) rest behind h = absurd (true≢false (sym h))

pub tree_text_lem : (A : ℕ) (c : Tree) (rest : List ℕ) → tree_rises A c ≡ true → lists_filled c ≡ true → tree_in_range c ≡ true → tree_size c ≤ max_tree_nodes → tree_text (line_words (compose_line c) ++ rest) ≡ text_of_tree c
unfolding tree_text starts_behind text_of_tree tree_size line_words
tree_text_lem A c rest r f h few =
    let good = tree_readable A c r f h in
    let line = line_words (compose_line c) ++ rest in
    let ps : starts_behind line ≡ flat_map pred_words (flat_map own (nodes c)) ++ rest = first_start_lem line rest c 0 refl few ∙ ap (λ (l : List Pred). flat_map pred_words l ++ rest) (sym (own_starts c)) in
    ap (λ (l : List ℕ). joined space (node_texts (tree_size c) ((flat_map node_words (nodes c) ++ start_words c) ++ rest) l)) ps ∙
    ap (λ (l : List ℕ). joined space (node_texts (tree_size c) l (flat_map pred_words (flat_map own (nodes c)) ++ rest))) (append_assoc (flat_map node_words (nodes c)) (start_words c) rest) ∙
    ap (joined space) (nodes_text (nodes c) (start_words c ++ rest) rest good) ∙
    joined_parts space spelled_node (nodes c) (every_weaker readable (λ n. not (is_none (spelled_node n))) some_node (nodes c) good)
