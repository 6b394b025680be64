-- The laws of `read`: where rows 3, 5 and 6 are not broken, its tokens walk like the nodes that they spell, and so the
-- answer and the words are those of the tree.
use Prim.Native.Nat.{ℕ, zero, suc, ◌≤◌}
use mathlib.Core.Path.{◌≡◌, refl, sym, ◌∙◌, ap, subst}
use mathlib.Core.Bool.{Bool, true, false, not, ◌&&◌, and_assoc, true≢false, not-not, ◌||◌}
use mathlib.Core.List.{List, [], ◌∷◌, ◌++◌, map, flat_map}
use mathlib.Core.Option.{Option, none, some}
use native.Mathlib.Nat.{zero-add}
use native.Mathlib.Omega.{arith}
use borrow.Author.Tests.{ltb-false}
use lib.ListN.{length, take, drop}
use lib.Dec.{eqb, leb}
use Rattle.model.specs.Basic.{every, exists, lacks, same, count_up}
use Rattle.model.specs.Composition.{Tree, Node, par_node, syn_node, ini_node, leaf_node, stray_node, nodes, leaves, tree_size}
use Rattle.model.specs.Limits.{in_range, is_disordered, is_too_large}
use Rattle.model.specs.Parse.{read_pred, read_tree, with_starts}
use Rattle.model.specs.Predicate.{Pred, Word, stray, words}
use Rattle.model.specs.Table.{node_words}
use Rattle.model.proofs.Tests.{and_left, and_right, or_right, or_none_right}
use Rattle.model.proofs.Parsing.{nodes_of_read, words_of_read}
use Rattle.format.specs.Bytes.{Bytes, bytes}
use Rattle.format.specs.Spelling.{spelled}
use Rattle.format.specs.Tokens.{tokens, node, syn_of, read_nodes, read_words, sounds, list_sound, lists_sound, start_tokens, outside}
use Rattle.format.proofs.BytesLaws.{Free, same_is}
use Rattle.format.proofs.PredText.{no_stray, plain_nil}
use Rattle.format.proofs.ReadLaws.{sounds_inv, tokens_back}
use Rattle.format.proofs.StartLaws.{last_of, sounds_both, plain_after, trailing, tokens_split, trailing_short, outside_later}
use Rattle.format.proofs.TokenLaws.{Plain}
use Rattle.format.proofs.TreeFaults.{listed_step}
use Rattle.format.proofs.TreeText.{one, read_syn, read_last, node_syn, syn_good, read_starts, read_composed, pass_node, other_starts, other_nodes, syn_not_ini, syn_nodes, list_ini, plain_ini, ini_starts, ini_nodes, outside_other, outside_ini}
use Rattle.read_composition.specs.declared.token.Kind.{Kind}
use Rattle.read_composition.specs.declared.token.Kind.TheVariants.{Syn, Stray}
use Rattle.read_composition.specs.declared.compose.Walk.{Walk}
use Rattle.read_composition.specs.Token.{word_kind, set_kind, kind_of, is_syn, is_stray, kinds_of}
use Rattle.std.specs.Option.{is_some}
use Rattle.read_composition.specs.Read.{kind_words, placed, put_after, stepped, at_first, ill_formed, of_tree, ending, Outcome, walk, outcome, composition_of, memory_of}
use Rattle.read_composition.proofs.TokenNodes.{node_kind, word_node, set_node}
use Rattle.read_composition.proofs.Owed.{owes, owes_tree, leaves_in, leaves_of, order_of}
use Rattle.read_composition.proofs.Beyond.{ini_kind, ini_due}
use Rattle.read_composition.proofs.ComposeLaws.{next_stop, next_go}
use Rattle.read_composition.proofs.Trees.{Stand, formed_walk, Told, told}

-- From the tokens to the nodes. A walk goes on alike with kinds that walk alike.
cons_same : (N : ℕ) (k : Kind) (ks js : List Kind) → (is_stray k ≡ false → (w : Walk) (out : List ℕ) → walk N w out ks ≡ walk N w out js)
    → (w : Walk) (out : List ℕ) → walk N w out (k ∷ ks) ≡ walk N w out (k ∷ js)
cons_same N k ks js h w out = go (eqb w.owed 0 || is_stray k) refl
  where
    go : (v : Bool) → (eqb w.owed 0 || is_stray k) ≡ v → walk N w out (k ∷ ks) ≡ walk N w out (k ∷ js)
    go true e = next_stop N w out k ks e ∙ sym (next_stop N w out k js e)
    go false e = next_go N w out k ks e ∙ h (or_none_right (eqb w.owed 0) (is_stray k) e) _ _ ∙ sym (next_go N w out k js e)

-- the word `syn` changes nothing, and ends nothing well
put_none : (m x : ℕ) (out : List ℕ) → put_after Syn m x out ≡ out
unfolding put_after kind_words placed
put_none m x out = go (leb 64 m)
  where
    go : (v : Bool) → elim v as (λ q. List ℕ) [ true ↦ out | false ↦ out ] ≡ out
    go true = refl
    go false = refl

skip_syn : (N : ℕ) (k : Kind) (ks : List Kind) (w : Walk) (out : List ℕ) → walk N w out (Syn ∷ k ∷ ks) ≡ walk N w out (k ∷ ks)
unfolding stepped is_stray
skip_syn N k ks w out = go (eqb w.owed 0) refl
  where
    go : (v : Bool) → eqb w.owed 0 ≡ v → walk N w out (Syn ∷ k ∷ ks) ≡ walk N w out (k ∷ ks)
    go true e = next_stop N w out Syn (k ∷ ks) (rw e) ∙ sym (next_stop N w out k ks (rw e))
    go false e = next_go N w out Syn (k ∷ ks) (rw e) ∙ ap (λ o. walk N w o (k ∷ ks)) (put_none w.nodes w.next out)

last_syn : (N : ℕ) (w : Walk) (out : List ℕ) → walk N w out (Syn ∷ []) ≡ walk N w out (Stray ∷ [])
unfolding stepped is_stray
last_syn N w out = go (eqb w.owed 0) refl ∙ sym (next_stop N w out Stray [] (or_right (eqb w.owed 0) refl))
  where
    ends : eqb w.owed 0 ≡ false → (o : List ℕ) → walk N w o [] ≡ record { answer = ill_formed; memory = o }
    ends e o = unfold walk ending in rw (e, ending)

    go : (v : Bool) → eqb w.owed 0 ≡ v → walk N w out (Syn ∷ []) ≡ record { answer = ill_formed; memory = out }
    go true e = next_stop N w out Syn [] (rw e)
    go false e = next_go N w out Syn [] (rw e) ∙ ap (λ o. walk N w o []) (put_none w.nodes w.next out) ∙ ends e out

plain_kind : (n : Node) → is_syn (node_kind n) ≡ false
unfolding is_syn node_kind
plain_kind par_node = refl
plain_kind (syn_node list) = refl
plain_kind (ini_node p) = refl
plain_kind (leaf_node k) = refl
plain_kind stray_node = refl

not_stray : (n : Node) → is_stray (node_kind n) ≡ false → n ≡ stray_node → ⊥
unfolding is_stray node_kind
not_stray n h e = true≢false (sym (ap (λ m. is_stray (node_kind m)) e) ∙ h)

-- row 5, token by token
listed_inv : (A : ℕ) (b t : Bytes) (ts : List Bytes) → lists_sound A b (t ∷ ts) ≡ true → (list_sound A b t ≡ true) × (lists_sound A t ts ≡ true)
listed_inv A b t ts h =
    let e = sym (listed_step A b t ts) ∙ h in
    (and_left (list_sound A b t) (lists_sound A t ts) e, and_right (list_sound A b t) (lists_sound A t ts) e)

listed_both : (A : ℕ) (xs ts : List Bytes) (b : Bytes) → lists_sound A b (xs ++ ts) ≡ lists_sound A b xs && lists_sound A (last_of b xs) ts
listed_both A [] ts b = unfold lists_sound in refl
listed_both A (x ∷ xs) ts b = listed_step A b x (xs ++ ts) ∙ rw (listed_both A xs ts x, listed_step A b x xs, and_assoc)

-- Tokens after `before`, where rows 3, 5 and 6 are not broken: those outside of all P walk like their nodes.
abbrev Alike : (N A : ℕ) → Bytes → List Bytes → Type 0
Alike N A before ts =
    sounds before ts ≡ true → lists_sound A before ts ≡ true → exists lacks (read_starts before ts) ≡ false → (w : Walk) (out : List ℕ)
    → walk N w out (kinds_of false (outside 0 before ts)) ≡ walk N w out (map node_kind (read_composed before ts))

-- a node before what walks alike
alike_node : (N : ℕ) (n : Node) (us : List Bytes) (ns : List Node)
    → (is_stray (node_kind n) ≡ false → (w : Walk) (out : List ℕ) → walk N w out (kinds_of false us) ≡ walk N w out (map node_kind ns))
    → (k : Kind) → k ≡ node_kind n → (w : Walk) (out : List ℕ)
    → walk N w out (k ∷ kinds_of (is_syn k) us) ≡ walk N w out (map node_kind (n ∷ ns))
alike_node N n us ns ih k e w out =
    ap (λ x. walk N w out (x ∷ kinds_of (is_syn x) us)) e ∙ ap (λ b. walk N w out (node_kind n ∷ kinds_of b us)) (plain_kind n) ∙
    cons_same N (node_kind n) (kinds_of false us) (map node_kind ns) ih w out

alike_word : (N A : ℕ) (before t : Bytes) (ts : List Bytes) → Plain before → same t (bytes "syn") ≡ false → same t (bytes "ini") ≡ false
    → (Plain t → Alike N A t ts) → Alike N A before (t ∷ ts)
unfolding kinds_of kind_of
alike_word N A before t ts p n m ih h k o w out =
    let i = sounds_inv before t ts h in
    let j = listed_inv A before t ts k in
    let q = ap (exists lacks) (sym (other_starts before t ts m)) ∙ o in
    ap (λ l. walk N w out (kinds_of false l)) (outside_other before t ts m) ∙
    alike_node N (node t) (outside 0 t ts) (read_composed t ts) (λ s. ih (one before t p i.0 m (not_stray (node t) s)).plain i.1 j.1 q)
    (word_kind t) (word_node t n before p i.0) w out ∙
    ap (λ l. walk N w out (map node_kind l)) (sym (other_nodes before t ts m n))

syn_kind : word_kind (bytes "syn") ≡ Syn
unfolding word_kind same
syn_kind = refl

-- a `syn` and the token after it
syn_walk : (N : ℕ) (l : Bytes) (ts : List Bytes) (w : Walk) (out : List ℕ)
    → walk N w out (kinds_of false (bytes "syn" ∷ l ∷ ts)) ≡ walk N w out (set_kind l ∷ kinds_of (is_syn (set_kind l)) ts)
unfolding kinds_of kind_of is_syn
syn_walk N l ts w out =
    ap (λ x. walk N w out (x ∷ kinds_of (is_syn x) (l ∷ ts))) syn_kind ∙ skip_syn N (set_kind l) (kinds_of (is_syn (set_kind l)) ts) w out

alike_syn : (N A : ℕ) (before l : Bytes) (ts : List Bytes) → same l (bytes "ini") ≡ false → (Plain l → Alike N A l ts)
    → Alike N A before (bytes "syn" ∷ l ∷ ts)
alike_syn N A before l ts m ih h k o w out =
    let i = sounds_inv (bytes "syn") l ts (sounds_inv before (bytes "syn") (l ∷ ts) h).1 in
    let j = listed_inv A (bytes "syn") l ts (listed_inv A before (bytes "syn") (l ∷ ts) k).1 in
    let q = ap (exists lacks) (sym (other_starts before (bytes "syn") (l ∷ ts) syn_not_ini ∙ other_starts (bytes "syn") l ts m)) ∙ o in
    ap (λ x. walk N w out (kinds_of false x)) (outside_other before (bytes "syn") (l ∷ ts) syn_not_ini ∙ ap (λ x. bytes "syn" ∷ x) (outside_other (bytes "syn") l ts m)) ∙
    syn_walk N l (outside 0 l ts) w out ∙
    alike_node N (syn_of l) (outside 0 l ts) (read_composed l ts) (λ s. ih (syn_good l i.0 (not_stray (syn_of l) s)).2 i.1 j.1 q)
    (set_kind l) (set_node l A i.0 j.0) w out ∙
    ap (λ x. walk N w out (map node_kind x)) (sym (syn_nodes before l ts m))

-- a stray node takes no P, and nothing after it is looked at
alike_stray : (N : ℕ) (ps : List Pred) (us : List Bytes) (ns : List Node) → read_nodes us ≡ stray_node ∷ ns → (ks : List Kind) (w : Walk) (out : List ℕ)
    → walk N w out (Stray ∷ ks) ≡ walk N w out (map node_kind (with_starts ps (read_nodes us)))
unfolding node_kind is_stray
alike_stray N ps us ns e ks w out =
    cons_same N Stray ks (map node_kind (with_starts ps ns)) (λ f. absurd (true≢false f)) w out ∙
    ap (λ l. walk N w out (map node_kind l)) (sym (ap (with_starts ps) e ∙ pass_node ps stray_node ns tt))

-- an `ini` in a list's place is stray
alike_syn_ini : (N A : ℕ) (before : Bytes) (ts : List Bytes) → Alike N A before (bytes "syn" ∷ bytes "ini" ∷ ts)
alike_syn_ini N A before ts h k o w out =
    let us = outside 1 (bytes "ini") ts in
    let z : outside 0 before (bytes "syn" ∷ bytes "ini" ∷ ts) ≡ bytes "syn" ∷ bytes "ini" ∷ us =
    outside_other before (bytes "syn") (bytes "ini" ∷ ts) syn_not_ini ∙ ap (λ x. bytes "syn" ∷ x) (outside_ini (bytes "syn") ts) in
    ap (λ x. walk N w out (kinds_of false x)) z ∙ syn_walk N (bytes "ini") us w out ∙
    ap (λ x. walk N w out (x ∷ kinds_of (is_syn x) us)) ini_due ∙
    alike_stray N _ (outside 0 before (bytes "syn" ∷ bytes "ini" ∷ ts)) (read_nodes us)
    (ap read_nodes z ∙ read_syn (bytes "ini") us ∙ ap (λ x. x ∷ read_nodes us) list_ini) (kinds_of (is_syn Stray) us) w out

alike_last : (N A : ℕ) (before : Bytes) → Alike N A before (bytes "syn" ∷ [])
unfolding kinds_of kind_of is_syn outside
alike_last N A before h k o w out =
    let z : outside 0 before (bytes "syn" ∷ []) ≡ bytes "syn" ∷ [] = outside_other before (bytes "syn") [] syn_not_ini in
    ap (λ x. walk N w out (kinds_of false x)) z ∙ ap (λ x. walk N w out (x ∷ [])) syn_kind ∙ last_syn N w out ∙
    alike_stray N _ (outside 0 before (bytes "syn" ∷ [])) [] (ap read_nodes z ∙ read_last (bytes "syn") ∙ ap (λ x. x ∷ []) node_syn) [] w out

-- after a P that is read, a number is judged by itself
plain_end : (its : List Bytes) (p : Pred) → sounds (bytes "ini") its ≡ true → read_pred (read_words its) ≡ some p → Plain (last_of (bytes "ini") its)
plain_end its p h e =
    let w = words_of_read (read_words its) p e in
    let s = tokens_back (bytes "ini") its plain_ini h (subst (λ (l : List Word). Free stray l) (sym w) (no_stray p)) in
    let spells : flat_map spelled (words p) ≡ its = ap (flat_map spelled) (sym w) ∙ s.spells in
    subst (λ (l : List Bytes). Plain (last_of (bytes "ini") l)) spells (plain_after p (bytes "ini") plain_ini (ap (every in_range) (sym w) ∙ s.ranged))

-- an `ini` and its P
alike_ini : (N A : ℕ) (before : Bytes) (ts : List Bytes) → ((c : Bytes) → Plain c → Alike N A c (trailing 1 (bytes "ini") ts))
    → Alike N A before (bytes "ini" ∷ ts)
unfolding kinds_of kind_of node_kind exists lacks
alike_ini N A before ts ih h k o w out = go (read_pred (read_words its)) refl
  where
    its : List Bytes
    its = start_tokens 1 (bytes "ini") ts

    rest : List Bytes
    rest = trailing 1 (bytes "ini") ts

    last : Bytes
    last = last_of (bytes "ini") its

    sounds_in : (sounds (bytes "ini") its && sounds last rest) ≡ true
    sounds_in = sym (sounds_both its rest (bytes "ini")) ∙ ap (sounds (bytes "ini")) (sym (tokens_split ts 1 (bytes "ini"))) ∙ (sounds_inv before (bytes "ini") ts h).1

    listed_in : (lists_sound A (bytes "ini") its && lists_sound A last rest) ≡ true
    listed_in =
        sym (listed_both A its rest (bytes "ini")) ∙ ap (lists_sound A (bytes "ini")) (sym (tokens_split ts 1 (bytes "ini"))) ∙
        (listed_inv A before (bytes "ini") ts k).1

    go : (x : Option Pred) → read_pred (read_words its) ≡ x
        → walk N w out (kinds_of false (outside 0 before (bytes "ini" ∷ ts))) ≡ walk N w out (map node_kind (read_composed before (bytes "ini" ∷ ts)))
    go none e =
        let s = ini_starts before ts [] ∙ ap (λ (x : Option Pred). x ∷ read_starts [] rest) e in
        absurd (true≢false (ap (exists lacks) (sym s) ∙ o))
    go (some p) e =
        let q = ap (exists lacks) (sym (ini_starts before ts last ∙ ap (λ (x : Option Pred). x ∷ read_starts last rest) e)) ∙ o in
        let plain = plain_end its p (and_left (sounds (bytes "ini") its) _ sounds_in) e in
        ap (λ l. walk N w out (kinds_of false l)) (outside_ini before ts ∙ ap (λ l. bytes "ini" ∷ l) (outside_later ts 1 (bytes "ini") last)) ∙
        alike_node N (ini_node p) (outside 0 last rest) (read_composed last rest)
        (λ s. ih last plain (and_right (sounds (bytes "ini") its) _ sounds_in) (and_right (lists_sound A (bytes "ini") its) _ listed_in) q)
        (word_kind (bytes "ini")) ini_kind w out ∙
        ap (λ l. walk N w out (map node_kind l)) (sym (ini_nodes before ts last p e))

alike_none : (N A : ℕ) (before : Bytes) → Alike N A before []
unfolding kinds_of outside read_nodes with_starts
alike_none N A before h k o w out = refl

-- by the first token, where it holds of all that follows, and of what follows its P
module _ (N A : ℕ) (before t : Bytes) (ts : List Bytes) (p : Plain before)
    (ih : (us : List Bytes) → length us ≤ length ts → (c : Bytes) → Plain c → Alike N A c us) where
  by_list : (l : Bytes) (us : List Bytes) → length us ≤ length ts → (v : Bool) → same l (bytes "ini") ≡ v → Alike N A before (bytes "syn" ∷ l ∷ us)
  by_list l us s true e = rw (same_is l (bytes "ini") e) (alike_syn_ini N A before us)
  by_list l us s false e = alike_syn N A before l us e (ih us s l)

  after_syn : (us : List Bytes) → length us ≤ length ts → Alike N A before (bytes "syn" ∷ us)
  after_syn [] s = alike_last N A before
  after_syn (l ∷ us) s = by_list l us (omega arith) (same l (bytes "ini")) refl

  by_word : same t (bytes "ini") ≡ false → (v : Bool) → same t (bytes "syn") ≡ v → Alike N A before (t ∷ ts)
  by_word i true e = rw (same_is t (bytes "syn") e) (after_syn ts (omega arith))
  by_word i false e = alike_word N A before t ts p e i (ih ts (omega arith) t)

  by_first : (v : Bool) → same t (bytes "ini") ≡ v → Alike N A before (t ∷ ts)
  by_first true e = rw (same_is t (bytes "ini") e) (alike_ini N A before ts (ih (trailing 1 (bytes "ini") ts) (trailing_short ts 1 (bytes "ini"))))
  by_first false e = by_word e (same t (bytes "syn")) refl

alike : (N A most : ℕ) (ts : List Bytes) → length ts ≤ most → (before : Bytes) → Plain before → Alike N A before ts
alike N A zero [] l before p = alike_none N A before
alike N A zero (t ∷ ts) l before p = absurd (omega arith)
alike N A (suc most) [] l before p = alike_none N A before
alike N A (suc most) (t ∷ ts) l before p = by_first N A before t ts p (λ us k. alike N A most us (omega arith)) (same t (bytes "ini")) refl

-- the laws of `read`, where rows 3, 5 and 6 are not broken
module _ (N A : ℕ) (s : Bytes) (out : List ℕ) (row3 : sounds [] (tokens s) ≡ true) (row5 : lists_sound A [] (tokens s) ≡ true)
    (row6 : exists lacks (read_starts [] (tokens s)) ≡ false) where
  by_nodes : outcome N s out ≡ walk N at_first out (map node_kind (read_composed [] (tokens s)))
  unfolding outcome
  by_nodes = alike N A (length (tokens s)) (tokens s) (omega arith) [] plain_nil row3 row5 row6 at_first out

  -- row 13
  pub read_formed : is_some (composition_of N s out) ≡ not (lacks (read_tree (read_composed [] (tokens s))))
  read_formed =
      ap (λ (e : Outcome). is_some e.answer) by_nodes ∙ formed_walk N (read_composed [] (tokens s)) 1 0 true 0 0 out ∙ owes_tree (read_composed [] (tokens s))

  module _ (c : Tree) (e : read_tree (read_composed [] (tokens s)) ≡ some c) where
    -- the count of nodes, which row 16 asks of the tokens, is the tree's
    pub read_size : length (read_composed [] (tokens s)) ≡ tree_size c
    unfolding tree_size
    read_size = ap length (nodes_of_read (read_composed [] (tokens s)) c e)

    telling : Told N (nodes c) 0 true 0 0 out (outcome N s out)
    unfolding lacks
    telling =
        let w : read_composed [] (tokens s) ≡ nodes c = nodes_of_read (read_composed [] (tokens s)) c e in
        let o : owes 1 (nodes c) ≡ true = ap (owes 1) (sym w) ∙ owes_tree (read_composed [] (tokens s)) ∙ ap (λ x. not (lacks x)) e in
        let x : outcome N s out ≡ walk N at_first out (map node_kind (nodes c)) = by_nodes ∙ ap (λ l. walk N at_first out (map node_kind l)) w in
        subst (λ x. Told N (nodes c) 0 true 0 0 out x) (sym x) (told N (nodes c) 1 0 true 0 0 out o)

    pub read_is_formed : is_some (composition_of N s out) ≡ true
    unfolding lacks
    read_is_formed = read_formed ∙ ap (λ x. not (lacks x)) e

    -- row 14
    pub read_ordered : (of_tree (composition_of N s out)).ordered ≡ not (is_disordered N c)
    unfolding is_disordered
    read_ordered =
        telling.ordered ∙ order_of N (leaves_in (nodes c)) ∙ ap (λ l. same l (count_up 0 N)) (leaves_of c) ∙
        sym (not-not (same (leaves c) (count_up 0 N)))

    -- row 16
    pub read_count : (of_tree (composition_of N s out)).nodes ≡ tree_size c
    unfolding tree_size
    read_count = telling.count ∙ zero-add (length (nodes c))

    -- the words of the nodes, from the start; the rest of the memory is as it was
    module _ (row16 : is_too_large (tree_size c) ≡ false) (room : length out ≡ 192) where
      standing : Stand (outcome N s out) 0 out (flat_map node_words (nodes c))
      unfolding is_too_large tree_size
      standing =
          let l = ltb-false 64 (length (nodes c)) row16 in
          telling.words (omega arith) (omega arith)

      pub read_next : (of_tree (composition_of N s out)).next ≡ length (flat_map node_words (nodes c))
      read_next = standing.next ∙ zero-add (length (flat_map node_words (nodes c)))

      pub read_words_lem : take (of_tree (composition_of N s out)).next (memory_of N s out) ≡ flat_map node_words (nodes c)
      read_words_lem = ap (λ n. take n (memory_of N s out)) standing.next ∙ standing.front

      pub read_rest : drop (of_tree (composition_of N s out)).next (memory_of N s out) ≡ drop (of_tree (composition_of N s out)).next out
      read_rest = ap (λ n. drop n (memory_of N s out)) standing.next ∙ standing.rest ∙ ap (λ n. drop n out) (sym standing.next)
