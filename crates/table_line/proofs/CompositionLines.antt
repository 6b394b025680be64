-- The composition's line: its tree, and behind it the P of each `ini`.
use Prim.Native.Nat.{ℕ, zero, suc, ◌+◌, ◌-◌, ◌≤◌}
use mathlib.Core.Path.{◌≡◌, refl, sym, ap, ap₂, ◌∙◌}
use mathlib.Core.Bool.{Bool, true, false}
use mathlib.Core.List.Memᴰ
use mathlib.Core.List.{List, [], ◌∷◌, ◌++◌, append_assoc, flat_map, Memᴰ}
use mathlib.Core.Logic.{◌↔◌}
use mathlib.Core.Option.{none}
use native.Mathlib.Omega.{arith}
use borrow.Author.Tests.{leb-true, le-leb, lt-ltb, ltb-true, eqb-true, eq-eqb, not-false}
use lib.ListN.{length, take, drop, length-append, take-append-drop}
use lib.Seq.{take_at, drop-drop}
use lib.Dec.{eqb, leb, ltb}
use Rattle.model.specs.Basic.{every, lacks, count_up}
use Rattle.model.specs.Bounds.{max_actions, max_automata, max_nodes, last_automaton}
use Rattle.model.specs.Predicate.{Pred, words, node_count}
use Rattle.model.specs.Composition.{Tree, par, syn, ini, leaf, leaves, starts, start_nodes, tree_size}
use Rattle.model.specs.Lines.{compose, compose_line, key_of, Reading, with_model, with_nodes}
use Rattle.model.specs.Limits.{in_range, tree_in_range, numbers_in_range, tree_rises, variable_count, location_count, broken, is_disordered, starts_fault, content_fault, fault_of}
use Rattle.model.specs.Lawful.{LawfulTree, LawfulStart}
use Rattle.model.specs.Table.{pred_words, start_words, line_words}
use Rattle.model.proofs.Tests.{and_intro, and_left, and_right, and_same, every_append}
use Rattle.model.proofs.Lists.{same_of}
use Rattle.model.proofs.Decode.{unbroken, none_lacks}
use Rattle.model.proofs.LimitLines.{starts_clear, tree_line}
use Rattle.line_order.specs.declared.Counts.{Counts}
use Rattle.line_order.specs.Due.{number_of}
use Rattle.line_order.specs.Counts.{with_nodes as count_nodes, nodes_of, Counted, capped}
use Rattle.line_order.proofs.CountsLaws.{add_fits}
use Rattle.line_order.proofs.CappedLaws.{capped_few, rises_capped}
use Rattle.table_tree.specs.declared.checked.TreeEnd.{TreeEnd}
use Rattle.table_tree.specs.Nodes.{tree_words}
use Rattle.table_tree.specs.Checked.{tree_end, tree_check}
use Rattle.table_tree.proofs.NodeLaws.{later}
use Rattle.table_tree.proofs.Sound.{next_in as end_in, tree_check_of, tree_check_back}
use Rattle.table_tree.proofs.Given.{regiven}
use Rattle.table_line.specs.declared.Line.{Line}
use Rattle.table_line.specs.Exact.{Declared, LineAt}
use Rattle.std.specs.Prelude.{Option, Some, None}
use Rattle.table_line.proofs.PredicateCode.{nodes_in, next_in}
use Rattle.table_line.specs.Line.{a_line, word, location_at, behind_pred, starts_from, starts_at, of_tree, compose_at}
use Rattle.table_line.proofs.NumberLines.{when_sound, when_true, first_of, head_of, line_at_lem}
use Rattle.table_line.proofs.PredicateLines.{location_back, location_of}

-- a tree's leaves are in range, and so its automata are few
leaves_ranged : (c : Tree) → tree_in_range c ≡ true → every (λ k. leb k last_automaton) (leaves c) ≡ true
unfolding tree_in_range leaves every
leaves_ranged (par c d) h =
    every_append (λ k. leb k last_automaton) (leaves c) (leaves d)
    ∙ and_intro (leaves_ranged c (and_left (tree_in_range c) (tree_in_range d) h)) (leaves_ranged d (and_right (tree_in_range c) (tree_in_range d) h))
leaves_ranged (syn list c) h = leaves_ranged c (and_right (every (λ k. leb k max_actions) list) (tree_in_range c) h)
leaves_ranged (ini p c) h = leaves_ranged c (and_right (every in_range (words p)) (tree_in_range c) h)
leaves_ranged (leaf k) h = and_intro h refl

counted_few : (n count : ℕ) → n ≤ max_automata → every (λ k. leb k last_automaton) (count_up n count) ≡ true → n + count ≤ max_automata
unfolding every count_up
counted_few n zero l h = omega arith
counted_few n (suc count) l h =
    let first = leb-true n last_automaton (and_left (leb n last_automaton) (every (λ k. leb k last_automaton) (count_up (suc n) count)) h) in
    let later = counted_few (suc n) count (omega arith) (and_right (leb n last_automaton) (every (λ k. leb k last_automaton) (count_up (suc n) count)) h) in
    omega arith

-- the lists of a tree hold no action above 63, however many actions there are
tree_capped : (A : ℕ) (c : Tree) → tree_in_range c ≡ true → tree_rises (capped A) c ≡ tree_rises A c
unfolding tree_in_range tree_rises
tree_capped A (par c d) h =
    and_same (tree_capped A c (and_left (tree_in_range c) (tree_in_range d) h)) (tree_capped A d (and_right (tree_in_range c) (tree_in_range d) h))
tree_capped A (syn list c) h =
    let few = every (λ k. leb k max_actions) list in
    and_same (rises_capped A 0 list (and_left few (tree_in_range c) h)) (tree_capped A c (and_right few (tree_in_range c) h))
tree_capped A (ini p c) h = tree_capped A c (and_right (every in_range (words p)) (tree_in_range c) h)
tree_capped A (leaf k) h = refl

-- so the rows say the same of the line where there are no more
abbrev fewer : Reading → Reading
fewer r = with_model r r.model.format (capped r.model.actions) r.model.variables r.model.owners r.model.automata r.model.tree

capped_fault : (r : Reading) (c : Tree) → fault_of (fewer r) (compose_line c) ≡ fault_of r (compose_line c)
unfolding fault_of numbers_in_range content_fault starts_fault variable_count with_model broken
capped_fault r c = go (tree_in_range c) refl
  where
    go : (b : Bool) → tree_in_range c ≡ b → fault_of (fewer r) (compose_line c) ≡ fault_of r (compose_line c)
    go true h = rw (h, tree_capped r.model.actions c h)
    go false h = rw h

module _ (t : List ℕ) (r : Reading) (c : Counts) (k : Counted r c) (d : Declared t r) where
  -- behind P's with so many nodes
  counted_with : (total : ℕ) → c.nodes + total ≤ max_nodes → Counted (with_nodes r total) (count_nodes c total)
  unfolding with_nodes variable_count location_count
  counted_with total l =
      record {
        format = k.format;
        actions = k.actions;
        variables = k.variables;
        automata = k.automata;
        locations = k.locations;
        edges = k.edges;
        nodes = add_fits c.nodes total (omega arith) ∙ ap (λ (n : ℕ). n + total) k.nodes;
      }

  declared_with : (total : ℕ) → Declared t (with_nodes r total)
  unfolding with_nodes variable_count
  declared_with total = record { lawful = d.lawful; owners_are = d.owners_are; words = d.words }

  -- these P stand from `at` on and break no row, and the answer is their nodes, with `total` before them, and the place after them
  record StartsAt (ps : List Pred) (at total number nodes next : ℕ) : Type 0 where
    lawful : (p : Pred) → Memᴰ p ps → LawfulStart r.model.variables p
    few : r.nodes + nodes ≤ max_nodes
    there : drop at t ≡ flat_map pred_words ps ++ drop next t
    said : a_line 0 (total + length (flat_map words ps)) (at + length (flat_map pred_words ps)) ≡ a_line number nodes next

  abbrev SomeStarts : (count at total number nodes next : ℕ) → Type 0
  SomeStarts count at total number nodes next = (ps : List Pred) × (length ps ≡ count) × StartsAt ps at total number nodes next

  no_starts_lem : (at total number nodes next : ℕ) → c.nodes + total ≤ max_nodes → a_line 0 total at ≡ a_line number nodes next → StartsAt [] at total number nodes next
  unfolding flat_map
  no_starts_lem at total number nodes next l h =
      let size : total ≡ nodes = ap nodes_in h in
      let end : at ≡ next = ap next_in h in
      record {
        lawful = λ p i. absurd (Memᴰ.not-nil i);
        few = omega (arith, k.nodes);
        there = ap (λ (n : ℕ). drop n t) end;
        said = ap₂ (λ (m n : ℕ). a_line 0 m n) (omega arith) (omega arith) ∙ h;
      }

  -- one more in front of others, which is as an init line has it
  more_starts : (p : Pred) (ps : List Pred) (at total n number nodes next : ℕ) → LawfulStart r.model.variables p → at + length (pred_words p) ≡ n → drop at t ≡ pred_words p ++ drop n t → StartsAt ps n (total + node_count p) number nodes next → StartsAt (p ∷ ps) at total number nodes next
  unfolding flat_map node_count
  more_starts p ps at total n number nodes next l end w s =
      record {
        lawful = λ q i. either q i;
        few = s.few;
        there = w ∙ ap (λ (x : List ℕ). pred_words p ++ x) s.there ∙ sym (append_assoc (pred_words p) (flat_map pred_words ps) (drop next t));
        said =
            ap₂ (λ (x y : ℕ). a_line 0 x y) (omega (arith, length-append (words p) (flat_map words ps))) (omega (arith, length-append (pred_words p) (flat_map pred_words ps)))
            ∙ s.said;
      }
    where
      either : (q : Pred) → Memᴰ q (p ∷ ps) → LawfulStart r.model.variables q
      either q (Memᴰ.head e) = rw e l
      either q (Memᴰ.tail i) = s.lawful q i

  starts_back : (count at total number nodes next : ℕ) → c.nodes + total ≤ max_nodes → starts_from t c count at total ≡ a_line number nodes next → SomeStarts count at total number nodes next
  unfolding starts_from behind_pred with_nodes
  starts_back zero at total number nodes next l h = ([], refl, no_starts_lem at total number nodes next l h)
  starts_back (suc count) at total number nodes next l h = go (starts_back count) (location_at t at (count_nodes c total)) refl h
    where
      go : ((at total number nodes next : ℕ) → c.nodes + total ≤ max_nodes → starts_from t c count at total ≡ a_line number nodes next → SomeStarts count at total number nodes next)
          → (line : Option Line) → location_at t at (count_nodes c total) ≡ line → behind_pred (λ m n. starts_from t c count n (total + m)) line ≡ a_line number nodes next → SomeStarts (suc count) at total number nodes next
      go ih None e h = let z : ◌≡◌ {A = ℕ} 0 1 = cc in absurd (omega arith)
      go ih (Some x) e h =
          let a = location_back t (with_nodes r total) (count_nodes c total) (counted_with total l) (declared_with total) at x.number x.nodes x.next e in
          let p = a.pred in
          let size : node_count p ≡ x.nodes = ap nodes_in a.said in
          let end : at + length (pred_words p) ≡ x.next = ap next_in a.said in
          let s = ih x.next (total + node_count p) number nodes next (omega (arith, k.nodes, a.few)) (rw size h) in
          (p ∷ s.0, ap suc s.1, more_starts p s.0 at total x.next number nodes next a.lawful end a.there s.2)

  starts_of : (ps : List Pred) (at total : ℕ) (rest : List ℕ) → ((p : Pred) → Memᴰ p ps → LawfulStart r.model.variables p) → r.nodes + total + length (flat_map words ps) ≤ max_nodes → drop at t ≡ flat_map pred_words ps ++ rest → starts_from t c (length ps) at total ≡ a_line 0 (total + length (flat_map words ps)) (at + length (flat_map pred_words ps))
  unfolding starts_from behind_pred flat_map with_nodes node_count
  starts_of [] at total rest lawful few e = ap₂ (λ (m n : ℕ). a_line 0 m n) (omega arith) (omega arith)
  starts_of (p ∷ ps) at total rest lawful few e =
      let long = length-append (words p) (flat_map words ps) in
      let wide = length-append (pred_words p) (flat_map pred_words ps) in
      let e' = e ∙ append_assoc (pred_words p) (flat_map pred_words ps) rest in
      let first = location_of t (with_nodes r total) (count_nodes c total) (counted_with total (omega (arith, k.nodes))) (declared_with total) at p (flat_map pred_words ps ++ rest) (lawful p (Memᴰ.head refl)) (omega arith) e' in
      let others = starts_of ps (at + length (pred_words p)) (total + length (words p)) rest (λ q i. lawful q (Memᴰ.tail i)) (omega arith) (later t (pred_words p) at (length (pred_words p)) (flat_map pred_words ps ++ rest) e' refl) in
      ap (behind_pred (λ m n. starts_from t c (length ps) n (total + m))) first ∙ others ∙ ap₂ (λ (m n : ℕ). a_line 0 m n) (omega arith) (omega arith)

  -- the number of `ini` before them
  behind_back : (at inis number nodes next : ℕ) → c.nodes ≤ max_nodes → starts_at t c at inis ≡ a_line number nodes next → SomeStarts inis (at + 1) 0 number nodes next × (drop at t ≡ inis ∷ drop (at + 1) t)
  unfolding starts_at
  behind_back at inis number nodes next l h =
      let s = when_sound _ _ number nodes next h in
      let below = ltb-true at (length t) (and_left (ltb at (length t)) (eqb (word t at) inis) s.0) in
      let is = eqb-true (word t at) inis (and_right (ltb at (length t)) (eqb (word t at) inis) s.0) in
      (starts_back inis (at + 1) 0 number nodes next (omega arith) s.1, head_of t at below ∙ ap (λ (n : ℕ). n ∷ drop (at + 1) t) is)

  behind_of : (ps : List Pred) (at : ℕ) (rest : List ℕ) → ((p : Pred) → Memᴰ p ps → LawfulStart r.model.variables p) → r.nodes + length (flat_map words ps) ≤ max_nodes → drop at t ≡ length ps ∷ (flat_map pred_words ps ++ rest) → starts_at t c at (length ps) ≡ a_line 0 (length (flat_map words ps)) (at + 1 + length (flat_map pred_words ps))
  unfolding starts_at
  behind_of ps at rest lawful few e =
      let f = first_of t at (length ps) (flat_map pred_words ps ++ rest) e in
      when_true _ (and_intro (lt-ltb at (length t) f.below) (eq-eqb (word t at) (length ps) f.is))
      ∙ starts_of ps (at + 1) 0 rest lawful (omega arith) f.then
      ∙ ap (λ (n : ℕ). a_line 0 n (at + 1 + length (flat_map pred_words ps))) (omega arith)

  tree_sound : (o : Option TreeEnd) (number nodes next : ℕ) → of_tree t c o ≡ a_line number nodes next → (end inis : ℕ) × (o ≡ tree_end end inis) × (starts_at t c end inis ≡ a_line number nodes next)
  unfolding of_tree
  tree_sound (Some x) number nodes next h = (x.next, x.inis, refl, h)
  tree_sound None number nodes next h = let z : ◌≡◌ {A = ℕ} 0 1 = cc in absurd (omega arith)

  abbrev A : ℕ
  A = capped c.actions

  abbrev N : ℕ
  N = c.automata

  -- what the rows ask of the line
  abbrev Starting : Tree → Type 0
  Starting tree = ((p : Pred) → Memᴰ p (starts tree) → LawfulStart r.model.variables p) × (r.nodes + start_nodes tree ≤ max_nodes)

  compose_rows : (tree : Tree) → N ≤ max_automata → (lacks (fault_of r (compose_line tree)) ≡ true) ↔ (LawfulTree A N tree × Starting tree)
  unfolding with_model
  compose_rows tree few = rw (← capped_fault r tree, k.actions, k.automata) (tree_line (fewer r) tree (capped_few r.model.actions) (omega (arith, k.automata)))

  -- its leaves are the automata, of which there are few
  compose_few : (tree : Tree) → fault_of r (compose_line tree) ≡ none → N ≤ max_automata
  unfolding fault_of numbers_in_range content_fault is_disordered lacks
  compose_few tree g =
      let row3 = unbroken 3 _ _ g in
      let row5 = unbroken 5 _ _ row3.1 in
      let row13 = unbroken 13 _ _ (none_lacks _ ((starts_clear r tree _).0 (ap lacks row5.1)).5) in
      let row14 = unbroken 14 _ _ row13.1 in
      let order : leaves tree ≡ count_up 0 N = same_of _ _ (not-false _ row14.0) ∙ ap (count_up 0) (sym k.automata) in
      let few = counted_few 0 N (omega arith) (ap (every (λ j. leb j last_automaton)) (sym order) ∙ leaves_ranged tree (not-false (tree_in_range tree) row3.0)) in
      omega arith

  module _ (at : ℕ) where
    -- a tree's size and its nodes, and where they end
    abbrev TreeAt : Tree → ℕ → Type 0
    TreeAt tree end = (drop at t ≡ tree_size tree ∷ (tree_words tree ++ drop end t)) × (end ≡ at + 1 + length (tree_words tree))

    tree_back : every (λ w. ltb w 4294967296) t ≡ true → (end inis : ℕ) → tree_check t at A N ≡ tree_end end inis → (bare : Tree) × LawfulTree A N bare × (length (starts bare) ≡ inis) × TreeAt bare end
    tree_back fit end inis h =
        let b = tree_check_back t at A N end inis fit h in
        let words = tree_size b.0 ∷ tree_words b.0 in
        let rest = drop (end - at) (drop at t) in
        let there : drop at t ≡ words ++ rest = sym (take-append-drop (end - at) (drop at t)) ∙ ap (λ (x : List ℕ). x ++ rest) b.2 in
        let again = tree_check_of t A N at b.0 (capped_few c.actions) b.1 (ap (take (length words)) there ∙ take_at words rest (length words) refl) in
        let both : tree_end end inis ≡ tree_end (at + 1 + length (tree_words b.0)) (length (starts b.0)) = sym h ∙ again in
        let ends : end ≡ at + 1 + length (tree_words b.0) = ap end_in both in
        let place : at + (end - at) ≡ end = omega arith in
        (b.0, b.1, b.3, (there ∙ ap (λ (x : List ℕ). words ++ x) (drop-drop (end - at) at t ∙ ap (λ (n : ℕ). drop n t) place), ends))

    -- a tree whose P stand behind it
    composed : (tree : Tree) (end number nodes next : ℕ) → N ≤ max_automata → LawfulTree A N tree → TreeAt tree end → drop end t ≡ length (starts tree) ∷ drop (end + 1) t → StartsAt (starts tree) (end + 1) 0 number nodes next → LineAt t r compose at number nodes next
    unfolding key_of number_of nodes_of line_words start_words start_nodes
    composed tree end number nodes next few l w v s =
        let front = tree_words tree in
        let behind = length (starts tree) ∷ flat_map pred_words (starts tree) in
        let size : 0 + length (flat_map words (starts tree)) ≡ nodes = ap nodes_in s.said in
        let there : drop end t ≡ behind ++ drop next t = v ∙ ap (λ (x : List ℕ). length (starts tree) ∷ x) s.there in
        line_at_lem t r (compose_line tree) at number nodes next (drop next t)
        (none_lacks _ ((compose_rows tree few).1 (l, (s.lawful, omega (arith, s.few)))))
        (w.0 ∙ ap (λ (x : List ℕ). tree_size tree ∷ (front ++ x)) there ∙ ap (λ (x : List ℕ). tree_size tree ∷ x) (sym (append_assoc front behind (drop next t))))
        (ap₂ (λ (m n : ℕ). a_line 0 m n) (omega arith) (omega (arith, length-append front behind, w.1)) ∙ s.said)

    pub compose_sound : every (λ w. ltb w 4294967296) t ≡ true → (number nodes next : ℕ) → compose_at t at c ≡ a_line number nodes next → LineAt t r compose at number nodes next
    unfolding compose_at
    compose_sound fit number nodes next h =
        let s = when_sound _ _ number nodes next h in
        let few = leb-true N max_automata (and_left (leb N max_automata) (leb c.nodes max_nodes) s.0) in
        let room = leb-true c.nodes max_nodes (and_right (leb N max_automata) (leb c.nodes max_nodes) s.0) in
        let o = tree_sound (tree_check t at A N) number nodes next s.1 in
        let b = tree_back fit o.0 o.1 o.2 in
        let v = behind_back o.0 o.1 number nodes next room o.3 in
        let g = regiven A N b.0 v.0.0 (v.0.1 ∙ sym b.2) b.1 in
        composed g.0 o.0 number nodes next few g.1 (rw (g.3, g.4) b.3) (v.1 ∙ rw (g.2, v.0.1)) (rw g.2 v.0.2)

    pub compose_of : (tree : Tree) (rest : List ℕ) → fault_of r (compose_line tree) ≡ none → drop at t ≡ line_words (compose_line tree) ++ rest → compose_at t at c ≡ a_line 0 (start_nodes tree) (at + length (line_words (compose_line tree)))
    unfolding compose_at of_tree line_words start_words start_nodes lacks
    compose_of tree rest g e =
        let few = compose_few tree g in
        let l = (compose_rows tree few).0 (ap lacks g) in
        let front = tree_size tree ∷ tree_words tree in
        let behind = length (starts tree) ∷ flat_map pred_words (starts tree) in
        let end = at + 1 + length (tree_words tree) in
        let long : at + length front ≡ end = omega arith in
        let there : drop at t ≡ front ++ (behind ++ rest) = e ∙ ap (λ (x : List ℕ). tree_size tree ∷ x) (append_assoc (tree_words tree) behind rest) in
        let found = tree_check_of t A N at tree (capped_few c.actions) l.0 (ap (take (length front)) there ∙ take_at front (behind ++ rest) (length front) refl) in
        let next : drop end t ≡ behind ++ rest = ap (λ (n : ℕ). drop n t) (sym long) ∙ later t front at (length front) (behind ++ rest) there refl in
        when_true _ (and_intro (le-leb N max_automata few) (le-leb c.nodes max_nodes (omega (arith, k.nodes, l.1.1))))
        ∙ ap (of_tree t c) found
        ∙ behind_of (starts tree) end rest l.1.0 l.1.1 next
        ∙ ap (λ (n : ℕ). a_line 0 (length (flat_map words (starts tree))) n) (omega (arith, length-append (tree_words tree) behind))
