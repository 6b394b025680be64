-- A predicate at a place of a table, and the lines with one: `init`, `inv` and `edge`.
use Prim.Native.Nat.{ℕ, suc, ◌+◌, ◌-◌, ◌≤◌, ◌<◌}
use mathlib.Core.Path.{◌≡◌, refl, sym, ap, ap₂, ◌∙◌}
use mathlib.Core.Bool.{Bool, true, false, not, ◌&&◌, ◌||◌, and-eq-true_iff}
use mathlib.Core.List.{List, ◌∷◌, ◌++◌, map, Memᴰ}
use mathlib.Core.Option.{none}
use native.Mathlib.Omega.{arith}
use borrow.Author.Tests.{leb-true, leb-false, le-leb, lt-leb, lt-ltb, le-ltb, ltb-true, ltb-false, eqb-true, eq-eqb, not-true, not-false}
use lib.ListN.{length, get_or, take, drop, length-append, length-drop, length-map, take-append-drop}
use lib.Seq.{drop-drop, take_at}
use lib.Dec.{leb, ltb}
use Rattle.model.specs.Basic.{every, exists, lacks}
use Rattle.model.specs.Bounds.{max_actions, max_depth, max_nodes, last_location, owners_format}
use Rattle.model.specs.Predicate.{Pred, Range, Word, words, depth, node_count, all_stay, names_outside, names_new, written}
use Rattle.model.specs.Model.{Edge}
use Rattle.model.specs.Lines.{init, inv, edge, init_line, inv_line, edge_line, key_of, Reading}
use Rattle.model.specs.Limits.{in_range, numbers_in_range, is_too_deep, exceeds_span, passes_nodes, variable_count, location_count, is_astray, is_owner, writes_foreign, is_foreign, pred_fault, content_fault, fault_of}
use Rattle.model.specs.Lawful.{LawfulRange, LawfulPred, LawfulStart}
use Rattle.model.specs.Table.{code, word_of, pred_words, line_words}
use Rattle.model.proofs.Tests.{never, and_intro, and_left, and_right, or_left, or_right, or_other, or_none, or_none_left, or_none_right}
use Rattle.model.proofs.Decode.{unbroken, none_lacks, words_back}
use Rattle.model.proofs.LimitLines.{state_line}
use Rattle.line_order.specs.declared.Counts.{Counts}
use Rattle.line_order.specs.Due.{number_of}
use Rattle.line_order.specs.Counts.{nodes_of, Counted}
use Rattle.table_predicate.specs.declared.Ended.{Ended}
use Rattle.table_predicate.specs.declared.Walked.{Walked}
use Rattle.table_predicate.specs.Walk.{declared_of, walk_at}
use Rattle.table_predicate.specs.Scan.{is_coded}
use Rattle.table_predicate.proofs.ScanLaws.{coded_words, words_coded}
use Rattle.table_predicate.proofs.WalkLaws.{declared_back, walk_of, walk_back}
use Rattle.table_line.specs.declared.Line.{Line}
use Rattle.table_writes.specs.Sets.{all_variables, rest_of}
use Rattle.table_owners.specs.Owners.{foreign_in}
use Rattle.table_owners.proofs.OwnerLaws.{foreign_is}
use Rattle.table_line.specs.Exact.{Declared, LineAt}
use Rattle.std.specs.Prelude.{Option, Some, None, Result, Ok, Err}
use Rattle.table_line.proofs.PredicateCode.{nodes_in, next_in}
use Rattle.table_line.specs.Line.{a_line, word, ranges_in, walked_to, nodes_sound, predicate_at, location_at, ends_sound, owns_at, owning, edge_at}
use Rattle.table_line.proofs.NumberLines.{when_sound, when_true, mended, first_of, head_of, two_of, two_there, line_at_lem}

module _ (t : List ℕ) (r : Reading) (c : Counts) (k : Counted r c) (d : Declared t r) where
  -- the declared ranges are those that have been read
  pub declared_are : declared_of (ranges_in t c.variables) ≡ r.model.variables
  unfolding ranges_in line_words
  declared_are = rw (k.variables, d.words) (declared_back r.model.variables r.model.owners d.lawful)

  pub declared_lawful : (x : Range) → Memᴰ x (declared_of (ranges_in t c.variables)) → LawfulRange x
  declared_lawful = rw declared_are d.lawful

  -- n nodes from `start` on are a predicate's, which breaks no row
  record NodesAt (start n : ℕ) : Type 0 where
    pred : Pred
    count : node_count pred ≡ n
    lawful : LawfulPred r.model.variables pred
    few : r.nodes + node_count pred ≤ max_nodes
    said : map word_of (take n (drop start t)) ≡ words pred
    coded : take n (drop start t) ≡ map code (words pred)

  -- the walk came past them, to one place
  same_walk : (q : Result Walked Ended) (v w : Walked) → q ≡ Ok v → q ≡ Ok w → v ≡ w
  same_walk q v w e f = cc

  walked_past : (q : Result Walked Ended) (next : ℕ) → walked_to q next ≡ true → (w : Walked) × ((q ≡ Ok w) × ((w.leaves ≡ false) × (w.next ≡ next)))
  unfolding walked_to
  walked_past (Ok w) next h = (w, (refl, (not-true w.leaves (and_left (not w.leaves) _ h), eqb-true w.next next (and_right (not w.leaves) _ h))))
  walked_past (Err s) next h = never h

  nodes_back : (start n : ℕ) → nodes_sound t c start n ≡ true → NodesAt start n
  unfolding nodes_sound walked_to variable_count
  nodes_back start n h =
      let slice = take n (drop start t) in
      let q = walk_at t (ranges_in t c.variables) start in
      let outside = names_outside c.variables (map word_of slice) in
      let codes = coded_words slice (and_left (every is_coded slice) _ h) in
      let h1 = and_right (every is_coded slice) _ h in
      let named = not-true outside (and_left (not outside) _ h1) in
      let h2 = and_right (not outside) _ h1 in
      let few = leb-true (c.nodes + n) max_nodes (and_right (walked_to q (start + n)) (leb (c.nodes + n) max_nodes) h2) in
      let came = walked_past q (start + n) (and_left (walked_to q (start + n)) (leb (c.nodes + n) max_nodes) h2) in
      let w = came.0 in
      let back = walk_back t (ranges_in t c.variables) declared_lawful start w came.1.0 in
      let p = back.0 in
      let s = back.1 in
      let both = same_walk q w _ came.1.0 s.walked in
      let end : start + n ≡ start + node_count p = sym came.1.1.1 ∙ ap (λ (v : Walked). v.next) both in
      let size : node_count p ≡ n = omega arith in
      let said : map word_of slice ≡ words p = ap (λ (m : ℕ). map word_of (take m (drop start t))) (sym size) ∙ s.there in
      let spanned = not-false _ (sym (ap (λ (v : Walked). v.leaves) both) ∙ came.1.1.0) in
      record {
        pred = p;
        count = size;
        lawful =
            record {
              ranged = ap (every in_range) (sym said) ∙ codes.1;
              named = ap₂ names_outside (sym k.variables) (sym said) ∙ named;
              shallow = s.shallow;
              spanned = ap (λ (l : List Range). all_stay l p) (sym declared_are) ∙ spanned;
            };
        few = omega (arith, k.nodes);
        said = said;
        coded = codes.0 ∙ ap (map code) said;
      }

  -- and the nodes of such a predicate pass the tests
  nodes_of_lem : (start : ℕ) (p : Pred) → LawfulPred r.model.variables p → r.nodes + node_count p ≤ max_nodes → take (node_count p) (drop start t) ≡ map code (words p) → nodes_sound t c start (node_count p) ≡ true
  unfolding nodes_sound walked_to variable_count
  nodes_of_lem start p l few e =
      let said : map word_of (take (node_count p) (drop start t)) ≡ words p = ap (map word_of) e ∙ words_back (words p) l.ranged in
      let walked = walk_of t (ranges_in t c.variables) declared_lawful start p e l.ranged l.shallow in
      let named : names_outside c.variables (map word_of (take (node_count p) (drop start t))) ≡ false = ap₂ names_outside k.variables said ∙ l.named in
      let stays : all_stay (declared_of (ranges_in t c.variables)) p ≡ true = ap (λ (v : List Range). all_stay v p) declared_are ∙ l.spanned in
      and_intro (ap (every is_coded) e ∙ words_coded (words p) l.ranged)
      (and_intro (ap not named)
      (and_intro (ap (λ (v : Result Walked Ended). walked_to v (start + node_count p)) walked ∙ rw (stays, eq-eqb (start + node_count p) (start + node_count p) refl))
      (le-leb (c.nodes + node_count p) max_nodes (omega (arith, k.nodes)))))

  -- at a place, a predicate's count of nodes and its nodes
  module _ (at : ℕ) where
    record PredAt : Type 0 where
      nodes : NodesAt (at + 1) (word t at)
      there : drop at t ≡ pred_words nodes.pred ++ drop (at + 1 + word t at) t

    predicate_back : (number nodes next : ℕ) → predicate_at t at c ≡ a_line number nodes next → PredAt × (a_line 0 (word t at) (at + 1 + word t at) ≡ a_line number nodes next)
    unfolding predicate_at pred_words
    predicate_back number nodes next h =
        let n = word t at in
        let s = when_sound _ _ number nodes next h in
        let tests = and_right (ltb at (length t)) (leb n (length t - (at + 1)) && nodes_sound t c (at + 1) n) s.0 in
        let found = nodes_back (at + 1) n (and_right (leb n (length t - (at + 1))) (nodes_sound t c (at + 1) n) tests) in
        let rest = drop (at + 1 + n) t in
        let after : drop (at + 1) t ≡ map code (words found.pred) ++ rest =
        sym (take-append-drop n (drop (at + 1) t)) ∙ ap₂ (λ (x y : List ℕ). x ++ y) found.coded (drop-drop n (at + 1) t) in (
          record {
            nodes = found;
            there = head_of t at (ltb-true at (length t) (and_left (ltb at (length t)) _ s.0)) ∙ ap₂ (λ (x : ℕ) (l : List ℕ). x ∷ l) (sym found.count) after;
          },
          s.1,
        )

    -- the same, of a predicate that is given
    record Said (p : Pred) : Type 0 where
      sound : predicate_at t at c ≡ a_line 0 (node_count p) (at + 1 + node_count p)
      words_are : map word_of (take (word t at) (drop (at + 1) t)) ≡ words p

    predicate_of : (p : Pred) (rest : List ℕ) → LawfulPred r.model.variables p → r.nodes + node_count p ≤ max_nodes → drop at t ≡ pred_words p ++ rest → Said p
    unfolding predicate_at pred_words node_count
    predicate_of p rest l few e =
        let f = first_of t at (node_count p) (map code (words p) ++ rest) e in
        let long = length-map (words p) code in
        let slice : take (node_count p) (drop (at + 1) t) ≡ map code (words p) = ap (take (node_count p)) f.then ∙ take_at (map code (words p)) rest (node_count p) long in
        let fits : node_count p ≤ length t - (at + 1) = omega (arith, length-drop (at + 1) t, ap (length {A = ℕ}) f.then, length-append (map code (words p)) rest) in
        record {
          sound =
              rw f.is
              (when_true _ (and_intro (lt-ltb at (length t) f.below) (and_intro (le-leb (node_count p) (length t - (at + 1)) fits) (nodes_of_lem (at + 1) p l few slice))));
          words_are = ap (λ (n : ℕ). map word_of (take n (drop (at + 1) t))) f.is ∙ ap (map word_of) slice ∙ words_back (words p) l.ranged;
        }

    -- how many words they are
    pred_long : (p : Pred) → at + 1 + node_count p ≡ at + length (pred_words p)
    unfolding pred_words node_count
    pred_long p = omega (arith, length-map (words p) code)

    -- A predicate as an init line has it, and an inv line, and each P of an `ini`: no row refuses it, and the answer is
    -- its count of nodes and the place after it.
    pub record StateAt (number nodes next : ℕ) : Type 0 where
      pub pred : Pred
      pub lawful : LawfulStart r.model.variables pred
      pub few : r.nodes + node_count pred ≤ max_nodes
      pub there : drop at t ≡ pred_words pred ++ drop next t
      pub said : a_line 0 (node_count pred) (at + length (pred_words pred)) ≡ a_line number nodes next

    pub location_back : (number nodes next : ℕ) → location_at t at c ≡ a_line number nodes next → StateAt number nodes next
    unfolding location_at
    location_back number nodes next h =
        let s = when_sound _ _ number nodes next h in
        let b = predicate_back number nodes next s.1 in
        let p = b.0.nodes.pred in
        let size = b.0.nodes.count in
        let end : at + 1 + word t at ≡ next = ap next_in b.1 in
        record {
          pred = p;
          lawful = record { pred = b.0.nodes.lawful; old = ap names_new (sym b.0.nodes.said) ∙ not-true _ s.0 };
          few = b.0.nodes.few;
          there = b.0.there ∙ ap (λ (n : ℕ). pred_words p ++ drop n t) end;
          said = ap₂ (λ (m n : ℕ). a_line 0 m n) size (sym (pred_long p) ∙ ap (λ (n : ℕ). at + 1 + n) size) ∙ b.1;
        }

    pub location_of : (p : Pred) (rest : List ℕ) → LawfulStart r.model.variables p → r.nodes + node_count p ≤ max_nodes → drop at t ≡ pred_words p ++ rest → location_at t at c ≡ a_line 0 (node_count p) (at + length (pred_words p))
    unfolding location_at
    location_of p rest l few e =
        let s = predicate_of p rest l.pred few e in
        when_true _ (ap (λ (ws : List Word). not (names_new ws)) s.words_are ∙ ap not l.old) ∙ s.sound ∙ ap (λ (n : ℕ). a_line 0 (node_count p) n) (pred_long p)

    -- init and inv
    state_mended : {number nodes next : ℕ} (a : StateAt number nodes next) → fault_of r (init_line a.pred) ≡ none
    state_mended a = none_lacks _ ((state_line r a.pred).1 (a.lawful.pred, a.lawful.old, a.few))

    pub init_sound : (number nodes next : ℕ) → location_at t at c ≡ a_line number nodes next → LineAt t r init at number nodes next
    unfolding key_of number_of nodes_of line_words
    init_sound number nodes next h =
        let a = location_back number nodes next h in
        line_at_lem t r (init_line a.pred) at number nodes next _ (state_mended a) a.there a.said

    pub inv_sound : (number nodes next : ℕ) → location_at t at c ≡ a_line number nodes next → LineAt t r inv at number nodes next
    unfolding key_of number_of nodes_of line_words fault_of numbers_in_range content_fault
    inv_sound number nodes next h =
        let a = location_back number nodes next h in
        line_at_lem t r (inv_line a.pred) at number nodes next _ (state_mended a) a.there a.said

    pub state_of : (p : Pred) (rest : List ℕ) → fault_of r (init_line p) ≡ none → drop at t ≡ pred_words p ++ rest → location_at t at c ≡ a_line 0 (node_count p) (at + length (pred_words p))
    unfolding lacks
    state_of p rest g e =
        let l = (state_line r p).0 (ap lacks g) in
        location_of p rest (record { pred = l.0; old = l.1 }) l.2 e

  -- edges: what the rows ask of one, beside what they ask of its predicate
  abbrev Ends : (from action to : ℕ) → Type 0
  Ends from action to = (from ≤ last_location) × (action ≤ max_actions) × (to ≤ last_location) × (from < location_count r) × (action ≤ r.model.actions) × (to < location_count r)

  ends_back : (from action to : ℕ) → ends_sound c from action to ≡ true → Ends from action to
  unfolding ends_sound
  ends_back from action to h =
      let g = simp and-eq-true_iff at h in (
        leb-true from last_location g.0.0,
        leb-true action max_actions g.0.1.0,
        leb-true to last_location g.0.1.1,
        omega (arith, ltb-true from c.locations g.1.0, k.locations),
        omega (arith, leb-true action c.actions g.1.1.0, k.actions),
        omega (arith, ltb-true to c.locations g.1.1.1, k.locations),
      )

  ends_of : (from action to : ℕ) → Ends from action to → ends_sound c from action to ≡ true
  unfolding ends_sound
  ends_of from action to e =
      and_intro
      (and_intro (le-leb from last_location e.0) (and_intro (le-leb action max_actions e.1) (le-leb to last_location e.2)))
      (and_intro (lt-ltb from c.locations (omega (arith, e.3, k.locations)))
      (and_intro (le-leb action c.actions (omega (arith, e.4, k.actions))) (lt-ltb to c.locations (omega (arith, e.5, k.locations)))))

  edge_mended : (e : Edge) → Ends e.from e.action e.to → LawfulPred r.model.variables e.update → r.nodes + node_count e.update ≤ max_nodes → is_foreign r (written e.update) ≡ false → fault_of r (edge_line e) ≡ none
  unfolding fault_of numbers_in_range content_fault pred_fault is_too_deep exceeds_span passes_nodes is_astray node_count variable_count
  edge_mended e h l few own =
      mended 3 (ap not (and_intro (le-leb e.from last_location h.0) (and_intro (le-leb e.action max_actions h.1) (and_intro (le-leb e.to last_location h.2) l.ranged))))
      (mended 7 l.named
      (mended 9 (le-ltb max_depth (depth e.update) l.shallow)
      (mended 10 (ap not l.spanned)
      (mended 11 (le-ltb max_nodes (r.nodes + length (words e.update)) few)
      (mended 12 (or_none (lt-leb (location_count r) e.from h.3) (or_none (le-ltb r.model.actions e.action h.4) (lt-leb (location_count r) e.to h.5)))
      (mended 51 own
      refl))))))

  edge_facts : (e : Edge) → fault_of r (edge_line e) ≡ none → Ends e.from e.action e.to × LawfulPred r.model.variables e.update × (r.nodes + node_count e.update ≤ max_nodes) × (is_foreign r (written e.update) ≡ false)
  unfolding fault_of numbers_in_range content_fault pred_fault is_too_deep exceeds_span passes_nodes is_astray node_count variable_count
  edge_facts e g =
      let row3 = unbroken 3 _ _ g in
      let row7 = unbroken 7 _ _ row3.1 in
      let row9 = unbroken 9 _ _ row7.1 in
      let row10 = unbroken 10 _ _ row9.1 in
      let row11 = unbroken 11 _ _ row10.1 in
      let later_rows = unbroken 12 _ _ row11.1 in
      let row12 = later_rows.0 in
      let ranged = numbers_in_range (edge_line e) in
      let n = simp and-eq-true_iff at (not-false ranged row3.0) in
      let later = or_none_right (leb (location_count r) e.from) _ row12 in (
        (
          leb-true e.from last_location n.0,
          leb-true e.action max_actions n.1.0,
          leb-true e.to last_location n.1.1.0,
          leb-false (location_count r) e.from (or_none_left (leb (location_count r) e.from) _ row12),
          ltb-false r.model.actions e.action (or_none_left (ltb r.model.actions e.action) _ later),
          leb-false (location_count r) e.to (or_none_right (ltb r.model.actions e.action) _ later),
        ),
        record { ranged = n.1.1.1; named = row7.0; shallow = ltb-false max_depth (depth e.update) row9.0; spanned = not-false _ row10.0 },
        ltb-false max_nodes (r.nodes + length (words e.update)) row11.0,
        (unbroken 51 _ _ later_rows.1).0,
      )

  -- row 51: an edge's automaton owns what it writes
  foreign_read : (p : Pred) → every in_range (words p) ≡ true → foreign_in (ranges_in t c.variables) c.automata (rest_of all_variables (map code (words p))) ≡ exists (λ i. not (is_owner (length r.model.automata) (get_or r.model.owners i none))) (written p)
  unfolding ranges_in
  foreign_read p ranged = rw (k.variables, d.words, k.automata) (foreign_is r.model.variables r.model.owners d.owners_are (length r.model.automata) p ranged)

  module _ (at : ℕ) (p : Pred) (ranged : every in_range (words p) ≡ true) (e : take (node_count p) (drop (at + 1) t) ≡ map code (words p)) where
    owns_back : owns_at t c at (node_count p) ≡ true → is_foreign r (written p) ≡ false
    unfolding owns_at is_foreign writes_foreign
    owns_back h = go (leb owners_format r.model.format) refl
      where
        go : (b : Bool) → leb owners_format r.model.format ≡ b → (b && exists (λ i. not (is_owner (length r.model.automata) (get_or r.model.owners i none))) (written p)) ≡ false
        go true f =
            let late = le-ltb c.format owners_format (omega (arith, leb-true owners_format r.model.format f, k.format)) in
            let own = not-true _ (and_right (ltb at (length t)) _ (or_other h late)) in
            sym (foreign_read p ranged) ∙ ap (λ (l : List ℕ). foreign_in (ranges_in t c.variables) c.automata (rest_of all_variables l)) (sym e) ∙ own
        go false f = refl

    owns_of : at < length t → is_foreign r (written p) ≡ false → owns_at t c at (node_count p) ≡ true
    unfolding owns_at is_foreign writes_foreign
    owns_of i h = go (leb owners_format r.model.format) refl h
      where
        go : (b : Bool) → leb owners_format r.model.format ≡ b → (b && exists (λ i. not (is_owner (length r.model.automata) (get_or r.model.owners i none))) (written p)) ≡ false
            → (ltb c.format owners_format || (ltb at (length t) && not (foreign_in (ranges_in t c.variables) c.automata (rest_of all_variables (take (node_count p) (drop (at + 1) t)))))) ≡ true
        go true f h =
            let own : foreign_in (ranges_in t c.variables) c.automata (rest_of all_variables (take (node_count p) (drop (at + 1) t))) ≡ false =
            ap (λ (l : List ℕ). foreign_in (ranges_in t c.variables) c.automata (rest_of all_variables l)) e ∙ foreign_read p ranged ∙ h in
            or_right (ltb c.format owners_format) (and_intro (lt-ltb at (length t) i) (ap not own))
        go false f h = or_left _ (lt-ltb c.format owners_format (omega (arith, leb-false owners_format r.model.format f, k.format)))

  -- a line that passes was one before, and its row 51 was asked
  owning_sound : (at number nodes next : ℕ) (l : Option Line) → owning t c at l ≡ a_line number nodes next → (l ≡ a_line number nodes next) × (owns_at t c at nodes ≡ true)
  unfolding owning
  owning_sound at number nodes next (Some x) h =
      let s = when_sound _ _ number nodes next h in
      let same : x.nodes ≡ nodes = ap nodes_in s.1 in
      (s.1, rw (← same) s.0)
  owning_sound at number nodes next None h = let z : ◌≡◌ {A = ℕ} 0 1 = cc in absurd (omega arith)

  module _ (at : ℕ) where
    pub edge_sound : (number nodes next : ℕ) → edge_at t at c ≡ a_line number nodes next → LineAt t r edge at number nodes next
    unfolding edge_at key_of number_of nodes_of line_words
    edge_sound number nodes next h =
        let from = word t at in
        let action = word t (at + 1) in
        let to = word t (at + 2) in
        let s = when_sound _ _ number nodes next h in
        let inside = ltb-true (at + 2) (length t) (and_left (ltb (at + 2) (length t)) (ends_sound c from action to) s.0) in
        let ends = ends_back from action to (and_right (ltb (at + 2) (length t)) (ends_sound c from action to) s.0) in
        let o = owning_sound (at + 3) number nodes next (predicate_at t (at + 3) c) s.1 in
        let b = predicate_back (at + 3) number nodes next o.0 in
        let p = b.0.nodes.pred in
        let size = b.0.nodes.count in
        let counted : word t (at + 3) ≡ nodes = ap nodes_in b.1 in
        let slice : take (node_count p) (drop (at + 3 + 1) t) ≡ map code (words p) = rw size b.0.nodes.coded in
        let own = owns_back (at + 3) p b.0.nodes.lawful.ranged slice (rw (size, counted) o.1) in
        let two : at + 1 + 1 ≡ at + 2 = omega arith in
        let three : at + 2 + 1 ≡ at + 3 = omega arith in
        let last : drop (at + 1 + 1) t ≡ to ∷ drop (at + 3) t = rw (two, ← three) (head_of t (at + 2) inside) in
        let there = two_there t at (omega arith) ∙ ap (λ (l : List ℕ). from ∷ action ∷ l) (last ∙ ap (λ (l : List ℕ). to ∷ l) b.0.there) in
        let end : at + suc (suc (suc (length (pred_words p)))) ≡ at + 3 + 1 + word t (at + 3) = omega (arith, pred_long (at + 3) p) in
        line_at_lem t r (edge_line (record { from = from; action = action; to = to; update = p })) at number nodes next _
        (edge_mended _ ends b.0.nodes.lawful b.0.nodes.few own) there (ap₂ (λ (m n : ℕ). a_line 0 m n) size end ∙ b.1)

    pub edge_of : (e : Edge) (rest : List ℕ) → fault_of r (edge_line e) ≡ none → drop at t ≡ line_words (edge_line e) ++ rest → edge_at t at c ≡ a_line 0 (node_count e.update) (at + length (line_words (edge_line e)))
    unfolding edge_at owning line_words pred_words node_count
    edge_of e rest g w =
        let p = e.update in
        let facts = edge_facts e g in
        let f = two_of t at e.from e.action (e.to ∷ (pred_words p ++ rest)) w in
        let two : at + 1 + 1 ≡ at + 2 = omega arith in
        let three : at + 2 + 1 ≡ at + 3 = omega arith in
        let last = first_of t (at + 2) e.to (pred_words p ++ rest) (rw (← two) f.1.then) in
        let s = predicate_of (at + 3) p rest facts.1 facts.2 (rw (← three) last.then) in
        let count = first_of t (at + 3) (node_count p) (map code (words p) ++ rest) (rw (← three) last.then) in
        let slice : take (node_count p) (drop (at + 3 + 1) t) ≡ map code (words p) = ap (take (node_count p)) count.then ∙ take_at (map code (words p)) rest (node_count p) (length-map (words p) code) in
        let own = owns_of (at + 3) p facts.1.ranged slice count.below facts.3 in
        let end : at + 3 + 1 + node_count p ≡ at + suc (suc (suc (length (pred_words p)))) = omega (arith, pred_long (at + 3) p) in
        rw (f.0.is, f.1.is, last.is) (when_true _ (and_intro (lt-ltb (at + 2) (length t) last.below) (ends_of e.from e.action e.to facts.0)))
        ∙ ap (owning t c (at + 3)) s.sound ∙ when_true _ own ∙ ap (λ (n : ℕ). a_line 0 (node_count p) n) end
