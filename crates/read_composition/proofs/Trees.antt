-- The walk over the nodes: its answer is that of rows 13 and 14 with the count of row 16, and its words are those of the nodes.
use Prim.Native.Nat.{ℕ, zero, suc, ◌+◌, ◌-◌, ◌*◌, ◌≤◌, ◌<◌}
use mathlib.Core.Path.{◌≡◌, refl, sym, ◌∙◌, ap, subst}
use mathlib.Core.Bool.{Bool, true, false, ◌&&◌, and_assoc, true≢false}
use mathlib.Core.List.{List, [], ◌∷◌, ◌++◌, map, flat_map, append_assoc, append-nil}
use native.Mathlib.Numerals.{add-one}
use native.Mathlib.Nat.{add-zero}
use native.Mathlib.Omega.{arith}
use borrow.Author.Tests.{ne_eqb}
use lib.ListN.{length, take, drop, set, length-append, length-set}
use lib.Seq.{take-suc-set, drop-set-lt}
use lib.Dec.{eqb}
use Rattle.model.specs.Bounds.{max_tree_nodes}
use Rattle.model.specs.Composition.{Node, par_node, syn_node, ini_node, leaf_node, stray_node}
use Rattle.model.specs.Predicate.{Pred}
use Rattle.model.specs.Table.{node_words, set_words, low_bits, high_bits}
use Rattle.read_composition.specs.declared.token.Kind.{Kind}
use Rattle.read_composition.specs.declared.token.Kind.TheVariants.{Par, Leaf, Stray}
use Rattle.read_composition.specs.declared.compose.Walk.{Walk}
use Rattle.read_composition.specs.Token.{is_stray}
use Rattle.std.specs.Option.{is_some}
use Rattle.read_composition.specs.Read.{kind_words, placed, next_after, put_after, stepped, of_tree, ending, Outcome, walk}
use Rattle.read_composition.proofs.TokenNodes.{node_kind}
use Rattle.read_composition.proofs.Owed.{owes, leaves_in, in_order}
use Rattle.read_composition.proofs.ComposeLaws.{next_by, put_by, words_few, next_stop, next_go}

-- words that were put one after the other
placed_take : (ws : List ℕ) (at : ℕ) (out : List ℕ) → at + length ws ≤ length out → take (at + length ws) (placed ws at out) ≡ take at out ++ ws
unfolding placed
placed_take [] at out h = rw (add-zero at) (sym (append-nil (take at out)))
placed_take (a ∷ ws) at out h =
    let e : at + suc (length ws) ≡ at + 1 + length ws = omega arith in
    let s : take (at + 1) (set out at a) ≡ take at out ++ (a ∷ []) = rw add-one (take-suc-set out at a (omega arith)) in
    ap (λ n. take n (placed ws (at + 1) (set out at a))) e ∙
    placed_take ws (at + 1) (set out at a) (simp length-set (omega arith)) ∙
    ap (λ l. l ++ ws) s ∙ append_assoc (take at out) (a ∷ []) ws

placed_drop : (ws : List ℕ) (at : ℕ) (out : List ℕ) (n : ℕ) → at + length ws ≤ n → drop n (placed ws at out) ≡ drop n out
unfolding placed
placed_drop [] at out n h = refl
placed_drop (a ∷ ws) at out n h = placed_drop ws (at + 1) (set out at a) n (omega arith) ∙ drop-set-lt n out at a (omega arith)

placed_length : (ws : List ℕ) (at : ℕ) (out : List ℕ) → length (placed ws at out) ≡ length out
unfolding placed
placed_length [] at out = refl
placed_length (a ∷ ws) at out = placed_length ws (at + 1) (set out at a) ∙ simp length-set

-- the words ws stand in the memory from `at` on, and the rest is as it was
pub record Stand (e : Outcome) (at : ℕ) (out ws : List ℕ) : Type 0 where
  pub next : (of_tree e.answer).next ≡ at + length ws
  pub front : take (at + length ws) e.memory ≡ take at out ++ ws
  pub rest : drop (at + length ws) e.memory ≡ drop (at + length ws) out

stand_more : (e : Outcome) (at : ℕ) (out us ws : List ℕ) → at + length us ≤ length out → Stand e (at + length us) (placed us at out) ws
    → Stand e at out (us ++ ws)
stand_more e at out us ws h s =
    let z : at + length us + length ws ≡ at + length (us ++ ws) = rw (length-append us ws) (omega arith) in
    record {
      next = s.next ∙ z;
      front = ap (λ n. take n e.memory) (sym z) ∙ s.front ∙ ap (λ l. l ++ ws) (placed_take us at out h) ∙ append_assoc (take at out) us ws;
      rest =
          ap (λ n. drop n e.memory) (sym z) ∙ s.rest ∙ placed_drop us at out (at + length us + length ws) (omega arith) ∙
          ap (λ n. drop n out) z;
    }

-- a walk by its fields
abbrev state : (owed leaves : ℕ) (ordered : Bool) (nodes next : ℕ) → Walk
state o l b m x = record { owed = o; leaves = l; ordered = b; nodes = m; next = x }

-- where a subtree is owed, a node is taken
on : (N o l : ℕ) (b : Bool) (m x : ℕ) (out : List ℕ) (k : Kind) (ks : List Kind) → is_stray k ≡ false
    → walk N (state (suc o) l b m x) out (k ∷ ks) ≡ walk N (stepped k (next_after k m x) (state (suc o) l b m x)) (put_after k m x out) ks
on N o l b m x out k ks h = next_go N (state (suc o) l b m x) out k ks (rw (ne_eqb (suc o) 0 (λ e. omega arith), h))

-- a node over one subtree, which is a `syn` or an `ini`: as many are owed as before
abbrev Over : Node → Type 0
Over n =
    (is_stray (node_kind n) ≡ false) × ((x : ℕ) (w : Walk)
    → stepped (node_kind n) x w ≡ record { owed = w.owed; leaves = w.leaves; ordered = w.ordered; nodes = w.nodes + 1; next = x })

on_over : (N : ℕ) (n : Node) (ns : List Node) (o l : ℕ) (b : Bool) (m x : ℕ) (out : List ℕ) → Over n
    → walk N (state (suc o) l b m x) out (map node_kind (n ∷ ns))
    ≡ walk N (state (suc o) l b (m + 1) (next_after (node_kind n) m x)) (put_after (node_kind n) m x out) (map node_kind ns)
on_over N n ns o l b m x out h =
    on N o l b m x out (node_kind n) (map node_kind ns) h.0 ∙
    ap (λ w. walk N w (put_after (node_kind n) m x out) (map node_kind ns)) (h.1 (next_after (node_kind n) m x) (state (suc o) l b m x))

over_syn : (list : List ℕ) → Over (syn_node list)
unfolding node_kind is_stray stepped
over_syn list = (refl, λ x w. refl)

over_ini : (p : Pred) → Over (ini_node p)
unfolding node_kind is_stray stepped
over_ini p = (refl, λ x w. refl)

-- row 13
formed_over : (N : ℕ) (n : Node) (ns : List Node) (o l : ℕ) (b : Bool) (m x : ℕ) (out : List ℕ) → Over n
    → ((y : ℕ) (mem : List ℕ) → is_some ((walk N (state (suc o) l b (m + 1) y) mem (map node_kind ns)).answer) ≡ owes (suc o) ns)
    → is_some ((walk N (state (suc o) l b m x) out (map node_kind (n ∷ ns))).answer) ≡ owes (suc o) ns
formed_over N n ns o l b m x out h ih = ap (λ (e : Outcome). is_some e.answer) (on_over N n ns o l b m x out h) ∙ ih _ _

pub formed_walk : (N : ℕ) (ns : List Node) (o l : ℕ) (b : Bool) (m x : ℕ) (out : List ℕ)
    → is_some ((walk N (state o l b m x) out (map node_kind ns)).answer) ≡ owes o ns
unfolding owes node_kind is_stray stepped
formed_walk N [] zero l b m x out = unfold walk ending in refl
formed_walk N [] (suc o) l b m x out = unfold walk ending in rw (ne_eqb (suc o) 0 (λ e. omega arith), ending)
formed_walk N (n ∷ ns) zero l b m x out =
    ap (λ (e : Outcome). is_some e.answer) (next_stop N (state 0 l b m x) out (node_kind n) (map node_kind ns) refl)
formed_walk N (par_node ∷ ns) (suc o) l b m x out =
    ap (λ (e : Outcome). is_some e.answer) (on N o l b m x out Par (map node_kind ns) refl) ∙
    formed_walk N ns (suc o + 1) l b (m + 1) (next_after Par m x) (put_after Par m x out) ∙ ap (λ i. owes i ns) (add-one (suc o))
formed_walk N (syn_node list ∷ ns) (suc o) l b m x out =
    formed_over N (syn_node list) ns o l b m x out (over_syn list) (λ y mem. formed_walk N ns (suc o) l b (m + 1) y mem)
formed_walk N (ini_node p ∷ ns) (suc o) l b m x out =
    formed_over N (ini_node p) ns o l b m x out (over_ini p) (λ y mem. formed_walk N ns (suc o) l b (m + 1) y mem)
formed_walk N (leaf_node a ∷ ns) (suc o) l b m x out =
    let less : suc o - 1 ≡ o = omega arith in
    ap (λ (e : Outcome). is_some e.answer) (on N o l b m x out (Leaf a) (map node_kind ns) refl) ∙
    formed_walk N ns (suc o - 1) (l + 1) (b && eqb a l) (m + 1) (next_after (Leaf a) m x) (put_after (Leaf a) m x out) ∙ ap (λ i. owes i ns) less
formed_walk N (stray_node ∷ ns) (suc o) l b m x out =
    ap (λ (e : Outcome). is_some e.answer) (next_stop N (state (suc o) l b m x) out Stray (map node_kind ns) (rw (ne_eqb (suc o) 0 (λ e. omega arith))))

-- what else is told of nodes that make up the trees owed: rows 14 and 16, and the words
pub record Told (N : ℕ) (ns : List Node) (l : ℕ) (b : Bool) (m x : ℕ) (out : List ℕ) (e : Outcome) : Type 0 where
  pub ordered : (of_tree e.answer).ordered ≡ (b && in_order N l (leaves_in ns))
  pub count : (of_tree e.answer).nodes ≡ m + length ns
  pub words : m + length ns ≤ max_tree_nodes → x + 3 * length ns ≤ length out → Stand e x out (flat_map node_words ns)

kind_words_lem : (n : Node) → kind_words (node_kind n) ≡ node_words n
unfolding kind_words node_kind node_words set_words low_bits high_bits
kind_words_lem par_node = refl
kind_words_lem (syn_node list) = refl
kind_words_lem (ini_node p) = refl
kind_words_lem (leaf_node k) = refl
kind_words_lem stray_node = refl

told_none : (N l : ℕ) (b : Bool) (m x : ℕ) (out : List ℕ) → Told N [] l b m x out (walk N (state 0 l b m x) out [])
unfolding walk ending leaves_in in_order flat_map
told_none N l b m x out =
    record {
      ordered = refl;
      count = sym (add-zero m);
      words = λ h k. record { next = sym (add-zero x); front = rw (add-zero x) (sym (append-nil (take x out))); rest = refl };
    }

-- one node more before what is told of the others
told_more : (N : ℕ) (n : Node) (ns : List Node) (l j : ℕ) (b d : Bool) (m x : ℕ) (out : List ℕ) (e : Outcome)
    → (d && in_order N j (leaves_in ns)) ≡ (b && in_order N l (leaves_in (n ∷ ns)))
    → Told N ns j d (m + 1) (next_after (node_kind n) m x) (put_after (node_kind n) m x out) e → Told N (n ∷ ns) l b m x out e
unfolding flat_map
told_more N n ns l j b d m x out e o t =
    record {
      ordered = t.ordered ∙ o;
      count = t.count ∙ omega arith;
      words = λ h k.
          let k' : x + 3 * suc (length ns) ≤ length out = k in
          let lt : m < 64 = omega arith in
          let us = kind_words (node_kind n) in
          let few = words_few (node_kind n) in
          let p : next_after (node_kind n) m x ≡ x + length us = next_by (node_kind n) m x out lt in
          let q : put_after (node_kind n) m x out ≡ placed us x out = put_by (node_kind n) m x out lt in
          let room : next_after (node_kind n) m x + 3 * length ns ≤ length (put_after (node_kind n) m x out) =
          rw (p, q, placed_length us x out) (omega arith) in
          let s : Stand e (next_after (node_kind n) m x) (put_after (node_kind n) m x out) (flat_map node_words ns) = t.words (omega arith) room in
          let r : Stand e (x + length us) (placed us x out) (flat_map node_words ns) = rw (p, q) at s in
          rw (← kind_words_lem n) (stand_more e x out us (flat_map node_words ns) (omega arith) r);
    }

told_over : (N : ℕ) (n : Node) (ns : List Node) (o l : ℕ) (b : Bool) (m x : ℕ) (out : List ℕ) → Over n → leaves_in (n ∷ ns) ≡ leaves_in ns
    → ((y : ℕ) (mem : List ℕ) → Told N ns l b (m + 1) y mem (walk N (state (suc o) l b (m + 1) y) mem (map node_kind ns)))
    → Told N (n ∷ ns) l b m x out (walk N (state (suc o) l b m x) out (map node_kind (n ∷ ns)))
told_over N n ns o l b m x out h e ih =
    subst (λ r. Told N (n ∷ ns) l b m x out r) (sym (on_over N n ns o l b m x out h))
    (told_more N n ns l l b b m x out _ (ap (λ ks. b && in_order N l ks) (sym e)) (ih _ _))

pub told : (N : ℕ) (ns : List Node) (o l : ℕ) (b : Bool) (m x : ℕ) (out : List ℕ) → owes o ns ≡ true
    → Told N ns l b m x out (walk N (state o l b m x) out (map node_kind ns))
unfolding owes node_kind is_stray stepped leaves_in in_order
told N [] zero l b m x out h = told_none N l b m x out
told N [] (suc o) l b m x out h = absurd (true≢false (sym h))
told N (n ∷ ns) zero l b m x out h = absurd (true≢false (sym h))
told N (par_node ∷ ns) (suc o) l b m x out h =
    let t = told N ns (suc o + 1) l b (m + 1) (next_after Par m x) (put_after Par m x out) (ap (λ i. owes i ns) (add-one (suc o)) ∙ h) in
    subst (λ e. Told N (par_node ∷ ns) l b m x out e) (sym (on N o l b m x out Par (map node_kind ns) refl))
    (told_more N par_node ns l l b b m x out _ refl t)
told N (syn_node list ∷ ns) (suc o) l b m x out h =
    told_over N (syn_node list) ns o l b m x out (over_syn list) refl (λ y mem. told N ns (suc o) l b (m + 1) y mem h)
told N (ini_node p ∷ ns) (suc o) l b m x out h =
    told_over N (ini_node p) ns o l b m x out (over_ini p) refl (λ y mem. told N ns (suc o) l b (m + 1) y mem h)
told N (leaf_node a ∷ ns) (suc o) l b m x out h =
    let less : suc o - 1 ≡ o = omega arith in
    let t =
    told N ns (suc o - 1) (l + 1) (b && eqb a l) (m + 1) (next_after (Leaf a) m x) (put_after (Leaf a) m x out) (ap (λ i. owes i ns) less ∙ h) in
    subst (λ e. Told N (leaf_node a ∷ ns) l b m x out e) (sym (on N o l b m x out (Leaf a) (map node_kind ns) refl))
    (told_more N (leaf_node a) ns l (l + 1) b (b && eqb a l) m x out _ (and_assoc b (eqb a l) (in_order N (l + 1) (leaves_in ns))) t)
told N (stray_node ∷ ns) (suc o) l b m x out h = absurd (true≢false (sym h))
