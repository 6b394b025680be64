-- The rows that the line of a tree breaks are those that the tree breaks.
use Prim.Native.Nat.{ℕ, ◌≤◌}
use mathlib.Core.Path.{◌≡◌, refl, sym, ◌∙◌, ap, subst}
use mathlib.Core.Bool.{Bool, true, false, not, ◌&&◌, ◌||◌, or-false, and-true, and_assoc}
use mathlib.Core.List.{List, [], ◌∷◌, ◌++◌, append_assoc, append-nil, map, flat_map}
use mathlib.Core.Option.{Option, none, some}
use native.Mathlib.Omega.{arith}
use lib.Dec.{leb}
use lib.ListN.{length}
use lib.IntN.{pos}
use Rattle.model.specs.Basic.{every, exists, lacks, or_else, same}
use Rattle.model.specs.Predicate as P
use Rattle.model.specs.Predicate.{Pred, Word, all, words, names_outside, names_new, all_of, any_of, not_word, imp_word, eq_word, le_word, num_word, old_word, new_word, add_word, sub_word, mul_word, if_word, stray}
use Rattle.model.specs.Bounds.{greatest_number, last_automaton, least_number, max_actions}
use Rattle.model.specs.Composition.{Node, Tree, ini, ini_node, leaf, leaf_node, nodes, par, par_node, starts, stray_node, syn, syn_node, tree_size}
use Rattle.model.specs.Limits.{broken, exceeds_span, fault_of, in_range, is_disordered, is_too_deep, is_too_large, passes_nodes, starts_fault, variable_count, lists_filled, numbers_in_range, rises, content_fault, tree_in_range, tree_rises}
use Rattle.model.specs.Lines.{Reading, compose, compose_line, key_of}
use Rattle.model.specs.Parse.{read_tree, with_starts}
use Rattle.model.proofs.Parsing.{nodes_of_read}
use Rattle.model.proofs.Tests.{and_intro}
use Rattle.model.proofs.Decode.{not_broken}
use Rattle.model.proofs.Lists.{flat_append}
use Rattle.format.specs.Bytes.{'a, Bytes, bytes, comma, joined, led_by}
use Rattle.format.specs.Number.{decimal, digit, within}
use Rattle.format.specs.Rows.{fault, field, fields, has_pred, is, numbers_sound, place, row10, row11, row12, row13, row14, row15, row16, row50, row2, row3, row4, row5, row6, row7, row8, row9, the_tree, tree_tokens, starts_of, the_starts, nodes_in, tree_of, value_of}
use Rattle.format.specs.Spelling.{spelled, spelled_node, spelling, text_of_list, text_of_tree, value_text}
use Rattle.format.specs.Tokens.{Numeral, bare, items, lettered, lists_sound, last_after, list_sound, node, numeral, read_nodes, sound, sounds, syn_of, tokens, unjudged}
use Rattle.format.proofs.BytesLaws.{Each, Free, each_append}
use Rattle.format.proofs.EntryLines.{dropped}
use Rattle.format.proofs.FaultLaws.{every_decimal, row2_of, within_zero}
use Rattle.format.proofs.LineLaws.{line_of}
use Rattle.format.proofs.NumberLaws.{false_true, leading}
use Rattle.format.proofs.PredText.{plain_nil, sounds_words}
use Rattle.format.proofs.StartLaws.{last_of, sounds_both, plain_after}
use Rattle.format.proofs.TokenLaws.{Plain, judged_plain, plain_by, plain_decimal, plain_first, plain_letter_n, plain_letter_v, plain_signed, sound_bare, sound_lettered, sounds_step, step_truth}
use Rattle.format.proofs.TreeRead.{flat, items_text, leaf_plain, list_parts, numeral_leaf, numeral_list, par_plain, shape, text_outside, text_preds, text_starts, tree_nodes, tree_read, tree_tokens_lem}
use Rattle.format.proofs.TreeText.{ini_plain, judged_syn, no_stray_node, not_stray, number_node, plain_a, read_node, read_syn, read_composed, read_starts, tree_law}

-- the last token
abbrev last_token : Tree → Bytes
last_token (par c d) = last_token d
last_token (syn l c) = last_token c
last_token (ini p c) = last_token c
last_token (leaf k) = 'a ∷ decimal k

plain_last : (c : Tree) → Plain (last_token c)
plain_last (par c d) = plain_last d
plain_last (syn l c) = plain_last c
plain_last (ini p c) = plain_last c
plain_last (leaf k) = plain_a k

text_nil : text_of_list [] ≡ []
unfolding text_of_list joined
text_nil = refl

plain_list : (l : List ℕ) → Plain (text_of_list l)
unfolding text_of_list joined
plain_list [] = plain_nil
plain_list (k ∷ ks) =
    let l = leading k in
    let h : l.first ≤ 57 = l.high in
    rw l.whole (plain_first l.first (l.rest ++ led_by comma (map decimal ks)) (omega arith))

pub listed_step : (A : ℕ) (b t : Bytes) (ts : List Bytes) → lists_sound A b (t ∷ ts) ≡ list_sound A b t && lists_sound A t ts
unfolding lists_sound
listed_step A b t ts = step_truth (list_sound A b t) (lists_sound A t ts)

sound_par : (b : Bytes) → sound b (bytes "par") ≡ true
unfolding sound numeral digit
sound_par b = refl

sound_syn : (b : Bytes) → sound b (bytes "syn") ≡ true
unfolding sound numeral digit
sound_syn b = refl

sound_nil : sound (bytes "syn") [] ≡ every (λ n. leb n max_actions) []
unfolding sound numeral every
sound_nil = refl

sound_list : (l : List ℕ) → sound (bytes "syn") (text_of_list l) ≡ every (λ n. leb n max_actions) l
sound_list [] = ap (sound (bytes "syn")) text_nil ∙ sound_nil
sound_list (k ∷ ks) =
    sound_bare (bytes "syn") (text_of_list (k ∷ ks)) (text_of_list (k ∷ ks)) (numeral_list k ks) ∙ judged_syn (text_of_list (k ∷ ks)) least_number greatest_number ∙
    ap (every (within (pos 0) (pos max_actions))) (list_parts k ks) ∙ every_decimal max_actions (k ∷ ks)

sound_leaf : (b : Bytes) (k : ℕ) → Plain b → sound b ('a ∷ decimal k) ≡ leb k last_automaton
unfolding last_after
sound_leaf b k h = sound_lettered b ('a ∷ decimal k) (decimal k) 'a (numeral_leaf k) ∙ judged_plain b (decimal k) (pos 0) (last_after 'a) h ∙ within_zero last_automaton k

plain_par : Plain (bytes "par")
unfolding same
plain_par = plain_by (bytes "par") refl refl refl

sound_ini : (b : Bytes) → sound b (bytes "ini") ≡ true
unfolding sound numeral digit
sound_ini b = refl

plain_ini : Plain (bytes "ini")
unfolding same
plain_ini = plain_by (bytes "ini") refl refl refl

tree_sounds : (c : Tree) (b : Bytes) (ts : List Bytes) → Plain b → sounds b (flat c ++ ts) ≡ tree_in_range c && sounds (last_token c) ts
unfolding nodes flat_map spelled_node tree_in_range
tree_sounds (par c d) b ts p =
    sounds_step b (bytes "par") (flat_map spelled_node (nodes c ++ nodes d) ++ ts) ∙ ap (λ x. x && sounds (bytes "par") (flat_map spelled_node (nodes c ++ nodes d) ++ ts)) (sound_par b) ∙
    ap (λ l. sounds (bytes "par") (l ++ ts)) (flat_append spelled_node (nodes c) (nodes d)) ∙ ap (sounds (bytes "par")) (append_assoc (flat c) (flat d) ts) ∙
    tree_sounds c (bytes "par") (flat d ++ ts) plain_par ∙ ap (λ x. tree_in_range c && x) (tree_sounds d (last_token c) ts (plain_last c)) ∙
    sym (and_assoc (tree_in_range c) (tree_in_range d) (sounds (last_token d) ts))
tree_sounds (syn list c) b ts p =
    sounds_step b (bytes "syn") (text_of_list list ∷ (flat c ++ ts)) ∙ ap (λ x. x && sounds (bytes "syn") (text_of_list list ∷ (flat c ++ ts))) (sound_syn b) ∙
    sounds_step (bytes "syn") (text_of_list list) (flat c ++ ts) ∙ ap (λ x. x && sounds (text_of_list list) (flat c ++ ts)) (sound_list list) ∙
    ap (λ x. every (λ n. leb n max_actions) list && x) (tree_sounds c (text_of_list list) ts (plain_list list)) ∙
    sym (and_assoc (every (λ n. leb n max_actions) list) (tree_in_range c) (sounds (last_token c) ts))
tree_sounds (ini q c) b ts p =
    let its = flat_map spelled (words q) in
    let last = last_of (bytes "ini") its in
    sounds_step b (bytes "ini") ((its ++ flat c) ++ ts) ∙ ap (λ x. x && sounds (bytes "ini") ((its ++ flat c) ++ ts)) (sound_ini b) ∙
    ap (sounds (bytes "ini")) (append_assoc its (flat c) ts) ∙ sounds_both its (flat c ++ ts) (bytes "ini") ∙
    ap (λ x. x && sounds last (flat c ++ ts)) (sounds_words q (bytes "ini") plain_ini) ∙
    go (every in_range (words q)) refl (λ e. tree_sounds c last ts (plain_after q (bytes "ini") plain_ini e))
  where
    go : (v : Bool) → every in_range (words q) ≡ v → (every in_range (words q) ≡ true → sounds (last_of (bytes "ini") (flat_map spelled (words q))) (flat c ++ ts) ≡ tree_in_range c && sounds (last_token c) ts)
        → (v && sounds (last_of (bytes "ini") (flat_map spelled (words q))) (flat c ++ ts)) ≡ (v && tree_in_range c) && sounds (last_token c) ts
    go true e ih = ih e
    go false e ih = refl
tree_sounds (leaf k) b ts p = sounds_step b ('a ∷ decimal k) ts ∙ ap (λ x. x && sounds ('a ∷ decimal k) ts) (sound_leaf b k p)

-- row 5: lists that do not rise
listed_par : (A : ℕ) (b : Bytes) → list_sound A b (bytes "par") ≡ true
unfolding list_sound numeral digit
listed_par A b = refl

listed_syn : (A : ℕ) (b : Bytes) → list_sound A b (bytes "syn") ≡ true
unfolding list_sound numeral digit
listed_syn A b = refl

listed_nil : (A : ℕ) → list_sound A (bytes "syn") [] ≡ rises A 0 []
unfolding list_sound numeral rises
listed_nil A = refl

listed_list : (A : ℕ) (l : List ℕ) → list_sound A (bytes "syn") (text_of_list l) ≡ rises A 0 l
unfolding list_sound same
listed_list A [] = ap (list_sound A (bytes "syn")) text_nil ∙ listed_nil A
listed_list A (k ∷ ks) = rw (numeral_list k ks, list_sound) (ap (rises A 0) (items_text k ks))

listed_leaf : (A : ℕ) (b : Bytes) (k : ℕ) → list_sound A b ('a ∷ decimal k) ≡ true
unfolding list_sound
listed_leaf A b k = rw (numeral_leaf k, list_sound)

-- no token of a P is `syn`, so none stands after it
listed_other : (A : ℕ) (b t : Bytes) → same b (bytes "syn") ≡ false → list_sound A b t ≡ true
listed_other A b t n = go (numeral t) refl
  where
    by : (x : Numeral) → numeral t ≡ x → list_sound A b t ≡ elim x as (λ q. Bool) [ unjudged ↦ true | bare s ↦ elim (same b (bytes "syn")) as (λ q. Bool) [ true ↦ rises A 0 (items s) | false ↦ true ] | lettered c s ↦ true ]
    by x e = unfold list_sound in ap (λ (y : Numeral). elim y as (λ q. Bool) [ unjudged ↦ true | bare s ↦ elim (same b (bytes "syn")) as (λ q. Bool) [ true ↦ rises A 0 (items s) | false ↦ true ] | lettered c s ↦ true ]) e

    go : (x : Numeral) → numeral t ≡ x → list_sound A b t ≡ true
    go unjudged e = by unjudged e
    go (bare s) e = by (bare s) e ∙ ap (λ (v : Bool). elim v as (λ q. Bool) [ true ↦ rises A 0 (items s) | false ↦ true ]) n
    go (lettered c s) e = by (lettered c s) e

abbrev NoSyn : Bytes → Type 0
NoSyn t = same t (bytes "syn") ≡ false

listed_past : (A : ℕ) (xs ts : List Bytes) (b : Bytes) → NoSyn b → Each NoSyn xs → lists_sound A b (xs ++ ts) ≡ lists_sound A (last_of b xs) ts
listed_past A [] ts b n e = refl
listed_past A (x ∷ xs) ts b n e = listed_step A b x (xs ++ ts) ∙ rw (listed_other A b x n) (listed_past A xs ts x e.0 e.1)

last_no_syn : (xs : List Bytes) (b : Bytes) → NoSyn b → Each NoSyn xs → NoSyn (last_of b xs)
last_no_syn [] b n e = n
last_no_syn (x ∷ xs) b n e = last_no_syn xs x e.0 e.1

word_no_syn : (w : Word) → Each NoSyn (spelled w)
unfolding spelled same
word_no_syn (all_of k) = (refl, ((plain_decimal k).no_syn, tt))
word_no_syn (any_of k) = (refl, ((plain_decimal k).no_syn, tt))
word_no_syn (num_word z) = ((plain_signed z).no_syn, tt)
word_no_syn (old_word k) = ((plain_letter_v (decimal k)).no_syn, tt)
word_no_syn (new_word k) = ((plain_letter_n (decimal k)).no_syn, tt)
word_no_syn not_word = (refl, tt)
word_no_syn imp_word = (refl, tt)
word_no_syn eq_word = (refl, tt)
word_no_syn le_word = (refl, tt)
word_no_syn add_word = (refl, tt)
word_no_syn sub_word = (refl, tt)
word_no_syn mul_word = (refl, tt)
word_no_syn if_word = (refl, tt)
word_no_syn stray = tt

words_no_syn : (ws : List Word) → Each NoSyn (flat_map spelled ws)
unfolding flat_map
words_no_syn [] = tt
words_no_syn (w ∷ ws) = each_append NoSyn (spelled w) (flat_map spelled ws) (word_no_syn w) (words_no_syn ws)

listed_ini : (A : ℕ) (b : Bytes) → list_sound A b (bytes "ini") ≡ true
unfolding list_sound numeral digit
listed_ini A b = refl

tree_listed : (A : ℕ) (c : Tree) (b : Bytes) (ts : List Bytes) → lists_sound A b (flat c ++ ts) ≡ tree_rises A c && lists_sound A (last_token c) ts
unfolding nodes flat_map spelled_node tree_rises
tree_listed A (par c d) b ts =
    listed_step A b (bytes "par") (flat_map spelled_node (nodes c ++ nodes d) ++ ts) ∙ ap (λ x. x && lists_sound A (bytes "par") (flat_map spelled_node (nodes c ++ nodes d) ++ ts)) (listed_par A b) ∙
    ap (λ l. lists_sound A (bytes "par") (l ++ ts)) (flat_append spelled_node (nodes c) (nodes d)) ∙ ap (lists_sound A (bytes "par")) (append_assoc (flat c) (flat d) ts) ∙
    tree_listed A c (bytes "par") (flat d ++ ts) ∙ ap (λ x. tree_rises A c && x) (tree_listed A d (last_token c) ts) ∙
    sym (and_assoc (tree_rises A c) (tree_rises A d) (lists_sound A (last_token d) ts))
tree_listed A (syn list c) b ts =
    listed_step A b (bytes "syn") (text_of_list list ∷ (flat c ++ ts)) ∙ ap (λ x. x && lists_sound A (bytes "syn") (text_of_list list ∷ (flat c ++ ts))) (listed_syn A b) ∙
    listed_step A (bytes "syn") (text_of_list list) (flat c ++ ts) ∙ ap (λ x. x && lists_sound A (text_of_list list) (flat c ++ ts)) (listed_list A list) ∙
    ap (λ x. rises A 0 list && x) (tree_listed A c (text_of_list list) ts) ∙
    sym (and_assoc (rises A 0 list) (tree_rises A c) (lists_sound A (last_token c) ts))
tree_listed A (ini p c) b ts =
    let its = flat_map spelled (words p) in
    listed_step A b (bytes "ini") ((its ++ flat c) ++ ts) ∙ ap (λ x. x && lists_sound A (bytes "ini") ((its ++ flat c) ++ ts)) (listed_ini A b) ∙
    ap (lists_sound A (bytes "ini")) (append_assoc its (flat c) ts) ∙ listed_past A its (flat c ++ ts) (bytes "ini") plain_ini.no_syn (words_no_syn (words p)) ∙
    tree_listed A c (last_of (bytes "ini") its) ts
tree_listed A (leaf k) b ts = listed_step A b ('a ∷ decimal k) ts ∙ ap (λ x. x && lists_sound A ('a ∷ decimal k) ts) (listed_leaf A b k)

whole_sounds : (c : Tree) → sounds [] (tokens (text_of_tree c)) ≡ tree_in_range c
unfolding sounds
whole_sounds c = ap (sounds []) (tree_tokens_lem c ∙ sym (append-nil (flat c))) ∙ tree_sounds c [] [] plain_nil ∙ and-true (tree_in_range c)

whole_listed : (A : ℕ) (c : Tree) → lists_sound A [] (tokens (text_of_tree c)) ≡ tree_rises A c
unfolding lists_sound
whole_listed A c = ap (lists_sound A []) (tree_tokens_lem c ∙ sym (append-nil (flat c))) ∙ tree_listed A c [] [] ∙ and-true (tree_rises A c)

-- the P's of a tree that is read are those that the text has
pub starts_back : (s : Bytes) (c : Tree) → sounds [] (tokens s) ≡ true → exists lacks (read_starts [] (tokens s)) ≡ false → read_tree (read_composed [] (tokens s)) ≡ some c
    → map (or_else (all P.none)) (read_starts [] (tokens s)) ≡ starts c
starts_back s c row3 row6 e =
    let t = tree_law s c row3 row6 e in
    let r : tree_in_range c ≡ true = sym (whole_sounds c) ∙ ap (λ (u : Bytes). sounds [] (tokens u)) (sym t) ∙ row3 in
    ap (λ (u : Bytes). map (or_else (all P.none)) (read_starts [] (tokens u))) t ∙ text_preds c r

-- row 13: a tree whose text is read has no empty list
syn_nil : syn_of [] ≡ stray_node
unfolding syn_of numeral
syn_nil = refl

filled : (c : Tree) (ts : List Bytes) → Free stray_node (read_nodes (flat_map shape (nodes c) ++ ts)) → (lists_filled c ≡ true) × Free stray_node (read_nodes ts)
unfolding nodes flat_map shape lists_filled
filled (par c d) ts n =
    let inner = flat_map shape (nodes c) in
    let e : read_nodes (bytes "par" ∷ (flat_map shape (nodes c ++ nodes d) ++ ts)) ≡ node (bytes "par") ∷ read_nodes (inner ++ (flat_map shape (nodes d) ++ ts)) =
    read_node (bytes "par") (flat_map shape (nodes c ++ nodes d) ++ ts) par_plain ∙ ap (λ l. node (bytes "par") ∷ read_nodes l) (ap (λ l. l ++ ts) (flat_append shape (nodes c) (nodes d)) ∙ append_assoc inner (flat_map shape (nodes d)) ts) in
    let m : Free stray_node (node (bytes "par") ∷ read_nodes (inner ++ (flat_map shape (nodes d) ++ ts))) = subst (λ (l : List Node). Free stray_node l) e n in
    let a = filled c (flat_map shape (nodes d) ++ ts) m.1 in
    let b = filled d ts a.1 in
    (and_intro a.0 b.0, b.1)
filled (syn [] c) ts n =
    let m : Free stray_node (syn_of (text_of_list []) ∷ read_nodes (flat_map shape (nodes c) ++ ts)) = subst (λ (l : List Node). Free stray_node l) (read_syn (text_of_list []) (flat_map shape (nodes c) ++ ts)) n in
    absurd (m.0 (ap syn_of text_nil ∙ syn_nil))
filled (syn (k ∷ ks) c) ts n =
    let m : Free stray_node (syn_of (text_of_list (k ∷ ks)) ∷ read_nodes (flat_map shape (nodes c) ++ ts)) = subst (λ (l : List Node). Free stray_node l) (read_syn (text_of_list (k ∷ ks)) (flat_map shape (nodes c) ++ ts)) n in
    filled c ts m.1
filled (ini p c) ts n =
    let m : Free stray_node (node (bytes "ini") ∷ read_nodes (flat_map shape (nodes c) ++ ts)) = subst (λ (l : List Node). Free stray_node l) (read_node (bytes "ini") (flat_map shape (nodes c) ++ ts) ini_plain) n in
    filled c ts m.1
filled (leaf k) ts n =
    let m : Free stray_node (node ('a ∷ decimal k) ∷ read_nodes ts) = subst (λ (l : List Node). Free stray_node l) (read_node ('a ∷ decimal k) ts (leaf_plain (decimal k))) n in
    (refl, m.1)

-- a stray node stays one where the P's are put in
free_before : (ps : List Pred) (ns : List Node) → Free stray_node (with_starts ps ns) → Free stray_node ns
unfolding with_starts number_node
free_before ps [] h = tt
free_before ps (par_node ∷ ns) h = (h.0, free_before ps ns h.1)
free_before ps (syn_node list ∷ ns) h = (h.0, free_before ps ns h.1)
free_before [] (ini_node q ∷ ns) h = absurd (h.0 refl)
free_before (p ∷ ps) (ini_node q ∷ ns) h = (not_stray (ini_node q) refl, free_before ps ns h.1)
free_before ps (leaf_node k ∷ ns) h = (h.0, free_before ps ns h.1)
free_before ps (stray_node ∷ ns) h = absurd (h.0 refl)

module _ (c : Tree) (ranged : tree_in_range c ≡ true) where
  abbrev read_all : Option Tree
  read_all = read_tree (read_composed [] (tokens (text_of_tree c)))

  unread : (o : Option Tree) → read_all ≡ o → lists_filled c ≡ false → o ≡ none
  unread none e h = refl
  unread (some d) e h =
      let w = nodes_of_read (read_composed [] (tokens (text_of_tree c))) d e in
      let n = free_before _ _ (subst (λ (l : List Node). Free stray_node l) (sym w) (no_stray_node d)) in
      let m = subst (λ (l : List Bytes). Free stray_node (read_nodes l)) (text_outside c ranged) n in
      absurd (false_true (sym h ∙ (filled c [] m).0))

  -- rows 13 to 16
  tree_rows : (N : ℕ) (b : Bool) → lists_filled c ≡ b →
      broken 13 (lacks read_all) (broken 14 (is_disordered N (or_else (leaf 0) read_all)) (broken 16 (is_too_large (length (read_composed [] (tokens (text_of_tree c))))) none))
      ≡ broken 13 (not (lists_filled c)) (broken 14 (is_disordered N c) (broken 16 (is_too_large (tree_size c)) none))
  unfolding broken lacks or_else tree_size
  tree_rows N true h = rw (h, tree_read c ranged h, tree_nodes c ranged h)
  tree_rows N false h = rw (h, unread read_all refl h)

  -- rows 6 to 16: each P is read, and breaks the rows that it breaks
  all_read : (ps : List Pred) → exists lacks (map some ps) ≡ false
  unfolding exists lacks
  all_read [] = refl
  all_read (p ∷ ps) = all_read ps

  start_rows : (r : Reading) (rest : Option ℕ) →
      broken 6 (exists lacks (read_starts [] (tokens (text_of_tree c))) || false)
      (broken 7 (exists (λ p. names_outside (variable_count r) (words p)) (map (or_else (all P.none)) (read_starts [] (tokens (text_of_tree c)))) || false)
      (broken 8 (exists (λ p. names_new (words p)) (map (or_else (all P.none)) (read_starts [] (tokens (text_of_tree c)))) || false)
      (broken 9 (exists is_too_deep (map (or_else (all P.none)) (read_starts [] (tokens (text_of_tree c)))) || false)
      (broken 10 (exists (exceeds_span r.model.variables) (map (or_else (all P.none)) (read_starts [] (tokens (text_of_tree c)))) || false)
      (broken 11 (passes_nodes r.nodes (flat_map words (map (or_else (all P.none)) (read_starts [] (tokens (text_of_tree c))))) || false)
      rest)))))
      ≡ starts_fault r (starts c) rest
  unfolding starts_fault broken
  start_rows r rest =
      ap (λ (o : List (Option Pred)). broken 6 (exists lacks o || false) (rows (map (or_else (all P.none)) (read_starts [] (tokens (text_of_tree c)))))) (text_starts c ranged)
      ∙ ap (λ (b : Bool). broken 6 (b || false) (rows (map (or_else (all P.none)) (read_starts [] (tokens (text_of_tree c)))))) (all_read (starts c))
      ∙ ap rows (text_preds c ranged)
      ∙ rw (or-false (exists (λ p. names_outside (variable_count r) (words p)) (starts c)), or-false (exists (λ p. names_new (words p)) (starts c)), or-false (exists is_too_deep (starts c)), or-false (exists (exceeds_span r.model.variables) (starts c)), or-false (passes_nodes r.nodes (flat_map words (starts c))))
    where
      rows : List Pred → Option ℕ
      rows ps =
          broken 7 (exists (λ p. names_outside (variable_count r) (words p)) ps || false)
          (broken 8 (exists (λ p. names_new (words p)) ps || false)
          (broken 9 (exists is_too_deep ps || false)
          (broken 10 (exists (exceeds_span r.model.variables) ps || false)
          (broken 11 (passes_nodes r.nodes (flat_map words ps) || false)
          rest))))

-- rows 5 to 16 of the line's value
module _ (r : Reading) where
  abbrev rows_from6 : Bytes → Option ℕ
  rows_from6 s =
      let ps = map (or_else (all P.none)) (read_starts [] (tokens s)) in
      broken 6 (exists lacks (read_starts [] (tokens s)) || false)
      (broken 7 (exists (λ p. names_outside (variable_count r) (words p)) ps || false)
      (broken 8 (exists (λ p. names_new (words p)) ps || false)
      (broken 9 (exists is_too_deep ps || false)
      (broken 10 (exists (exceeds_span r.model.variables) ps || false)
      (broken 11 (passes_nodes r.nodes (flat_map words ps) || false)
      (broken 13 (lacks (read_tree (read_composed [] (tokens s))))
      (broken 14 (is_disordered (length r.model.automata) (or_else (leaf 0) (read_tree (read_composed [] (tokens s)))))
      (broken 16 (is_too_large (length (read_composed [] (tokens s))))
      none))))))))

  abbrev rows_from5 : Bytes → Option ℕ
  rows_from5 s = broken 5 (not (lists_sound r.model.actions [] (tokens s))) (rows_from6 s)

  from_5 : (c : Tree) → tree_in_range c ≡ true → rows_from5 (text_of_tree c) ≡ content_fault r (compose_line c)
  unfolding content_fault
  from_5 c h =
      ap (λ (b : Bool). broken 5 (not b) (rows_from6 (text_of_tree c))) (whole_listed r.model.actions c)
      ∙ ap (broken 5 (not (tree_rises r.model.actions c)))
      (start_rows c h r _ ∙ ap (starts_fault r (starts c)) (tree_rows c h (length r.model.automata) (lists_filled c) refl))

  from_3 : (c : Tree) (v : Bool) → tree_in_range c ≡ v → broken 3 (not v) (rows_from5 (text_of_tree c)) ≡ broken 3 (not v) (content_fault r (compose_line c))
  unfolding broken
  from_3 c true h = from_5 c h
  from_3 c false h = refl

  pub compose_fault_lem : (c : Tree) → fault r compose (line_of (compose_line c)) ≡ fault_of r (compose_line c)
  unfolding fault fault_of numbers_in_range row3 row4 row5 row6 row7 row8 row9 row10 row11 row12 row13 row14 row15 row16 row50 is place has_pred broken key_of numbers_sound field fields value_of value_text tree_of tree_tokens nodes_in starts_of the_starts the_tree
  compose_fault_lem c =
      not_broken 2 (row2 compose (line_of (compose_line c))) _ (row2_of (compose_line c)) ∙
      ap (λ (s : Bytes). broken 3 (not (sounds [] (tokens s))) (rows_from5 s)) (dropped (spelling compose) (text_of_tree c)) ∙
      ap (λ (b : Bool). broken 3 (not b) (rows_from5 (text_of_tree c))) (whole_sounds c) ∙
      from_3 c (tree_in_range c) refl
