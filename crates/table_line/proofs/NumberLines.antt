-- Words that stand at a place of a table, and the lines of numbers, ranges and sets.
use Prim.Native.Nat.{ℕ, zero, suc, ◌+◌, ◌-◌, ◌≤◌, ◌<◌}
use mathlib.Core.Path.{◌≡◌, refl, sym, ap, ◌∙◌}
use mathlib.Core.Bool.{Bool, true, false, not, ◌&&◌, true≢false}
use mathlib.Core.List.{List, [], ◌∷◌, ◌++◌}
use mathlib.Core.Option.{Option as Choice, none, some}
use native.Mathlib.Omega.{arith}
use native.Mathlib.Numerals.{add-one}
use borrow.Author.Tests.{leb-true, leb-false, le-leb, lt-leb, lt-ltb, ltb-true, ne_eqb, not-true, not-false}
use lib.IntN.{ℤ, pos, negsuc}
use lib.Signed.{le_z}
use lib.ListN.{length, drop, length-drop}
use lib.Seq.{drop-cons}
use lib.Dec.{eqb, leb, ltb}
use Rattle.model.specs.Basic.{between, every, exists, lacks}
use Rattle.model.specs.Bounds.{max_actions, max_automata, last_automaton, max_edges, least_number, greatest_number, bias, last_biased, owners_format}
use Rattle.model.specs.Predicate.{Range, range}
use Rattle.model.specs.Lines.{Entry, actions_line, variable_line, automata_line, sync_line, edges_line, key_of, Reading, noted, with_model}
use Rattle.model.specs.Limits.{owner_in_range, is_early, is_beyond, rises, broken, numbers_in_range, content_fault, fault_of}
use Rattle.model.specs.Lawful.{LawfulRange}
use Rattle.model.specs.Table.{biased, unbiased, low_bits, high_bits, set_words, set_of, owner_word, owner_from, line_words}
use Rattle.model.proofs.Tests.{and_intro, and_left, and_right, or_right, or_other, every_at}
use Rattle.model.proofs.Bits.{set_back}
use Rattle.model.proofs.Decode.{unbroken, none_lacks}
use Rattle.model.proofs.LimitLines.{variable_line_lem, automata_line_lem, Said, sync_line_lem, edges_line_lem}
use Rattle.line_order.specs.declared.Counts.{Counts}
use Rattle.line_order.specs.Due.{number_of}
use Rattle.line_order.specs.Counts.{nodes_of, Counted}
use Rattle.node_words.proofs.NodeLaws.{biased_unbiased, number_span, biased_small}
use Rattle.table_tree.proofs.SetLaws.{words_back}
use Rattle.table_tree.proofs.NodeLaws.{later}
use Rattle.line_order.specs.Counts.{capped}
use Rattle.line_order.proofs.CappedLaws.{capped_few, rises_capped}
use Rattle.table_line.specs.declared.Line.{Line}
use Rattle.table_line.specs.Exact.{Declared, LineAt}
use Rattle.table_owners.specs.Owners.{beyond_in}
use Rattle.table_owners.proofs.OwnerLaws.{beyond_is}
use Rattle.std.specs.Prelude.{Option}
use Rattle.table_line.proofs.PredicateCode.{number_in, nodes_in, next_in}
use Rattle.table_line.specs.Line.{a_line, when, word, number_at, variable_at, sync_at, edges_at, owner_sound, variable_sound, ranges_in, automata_at}

-- a line that is sound if a test holds
pub when_sound : (b : Bool) (l : Option Line) (number nodes next : ℕ) → when b l ≡ a_line number nodes next → (b ≡ true) × (l ≡ a_line number nodes next)
unfolding when
when_sound true l number nodes next h = (refl, h)
when_sound false l number nodes next h = let z : ◌≡◌ {A = ℕ} 0 1 = cc in absurd (omega arith)

pub when_true : {b : Bool} (l : Option Line) → b ≡ true → when b l ≡ l
unfolding when
when_true l h = rw h

-- a row that is not broken, before others that are not
pub mended : (row : ℕ) {b : Bool} {rest : Choice ℕ} → b ≡ false → rest ≡ none → broken row b rest ≡ none
unfolding broken
mended row p q = rw (p, q)

module _ (t : List ℕ) where
  -- the first word at a place
  pub head_of : (at : ℕ) → at < length t → drop at t ≡ word t at ∷ drop (at + 1) t
  head_of at l = rw (add-one at) (drop-cons t at 0 l)

  pub record First (at x : ℕ) (l : List ℕ) : Type 0 where
    pub below : at < length t
    pub is : word t at ≡ x
    pub then : drop (at + 1) t ≡ l

  pub first_of : (at x : ℕ) (l : List ℕ) → drop at t ≡ x ∷ l → First at x l
  first_of at x l e =
      let below : at < length t = omega (arith, length-drop at t, ap (length {A = ℕ}) e) in
      let both = sym (head_of at below) ∙ e in
      record { below = below; is = cc; then = cc }

  -- an entry's words stand at a place
  pub line_at_lem : (r : Reading) (e : Entry) (at number nodes next : ℕ) (rest : List ℕ) → fault_of r e ≡ none → drop at t ≡ line_words e ++ rest → a_line (number_of e) (nodes_of e) (at + length (line_words e)) ≡ a_line number nodes next → LineAt t r (key_of e) at number nodes next
  line_at_lem r e at number nodes next rest f w q =
      let ends : next ≡ at + length (line_words e) = sym (ap next_in q) in
      record {
        entry = e;
        keyed = refl;
        numbered = ap number_in q;
        counted = ap nodes_in q;
        unbroken = f;
        words = w ∙ ap (λ (l : List ℕ). line_words e ++ l) (sym (ap (λ (n : ℕ). drop n t) ends ∙ later t (line_words e) at (length (line_words e)) rest w refl));
        ends = ends;
      }

  -- numbers
  module _ (at least most : ℕ) where
    pub number_sound : (number nodes next : ℕ) → number_at t at least most ≡ a_line number nodes next → (at < length t) × (least ≤ word t at) × (word t at ≤ most) × (a_line (word t at) 0 (at + 1) ≡ a_line number nodes next)
    unfolding number_at
    number_sound number nodes next h =
        let s = when_sound _ _ number nodes next h in
        let b = and_right (ltb at (length t)) (leb least (word t at) && leb (word t at) most) s.0 in (
          ltb-true at (length t) (and_left (ltb at (length t)) _ s.0),
          leb-true least (word t at) (and_left (leb least (word t at)) _ b),
          leb-true (word t at) most (and_right (leb least (word t at)) _ b),
          s.1,
        )

    pub number_of_lem : (n : ℕ) (rest : List ℕ) → drop at t ≡ n ∷ rest → least ≤ n → n ≤ most → number_at t at least most ≡ a_line n 0 (at + 1)
    unfolding number_at
    number_of_lem n rest e l u =
        let f = first_of at n rest e in
        rw f.is (when_true _ (and_intro (lt-ltb at (length t) f.below) (and_intro (le-leb least n l) (le-leb n most u))))

  -- row 15
  pub edges_sound : (r : Reading) (c : Counts) (at number nodes next : ℕ) → Counted r c → edges_at t at c ≡ a_line number nodes next → LineAt t r (key_of (edges_line (word t at))) at number nodes next
  unfolding edges_at number_of nodes_of line_words
  edges_sound r c at number nodes next k h =
      let n = word t at in
      let s = when_sound _ _ number nodes next h in
      let below = ltb-true at (length t) (and_left (ltb at (length t)) (leb (c.edges + n) max_edges) s.0) in
      let few = leb-true (c.edges + n) max_edges (and_right (ltb at (length t)) (leb (c.edges + n) max_edges) s.0) in
      line_at_lem r (edges_line n) at number nodes next (drop (at + 1) t) (none_lacks _ ((edges_line_lem r n).1 (omega (arith, k.edges)))) (head_of at below) s.1

  pub edges_of : (r : Reading) (c : Counts) (at n : ℕ) (rest : List ℕ) → Counted r c → fault_of r (edges_line n) ≡ none → drop at t ≡ n ∷ rest → edges_at t at c ≡ a_line n 0 (at + 1)
  unfolding edges_at lacks
  edges_of r c at n rest k g e =
      let f = first_of at n rest e in
      let few = (edges_line_lem r n).0 (ap lacks g) in
      rw f.is (when_true _ (and_intro (lt-ltb at (length t) f.below) (le-leb (c.edges + n) max_edges (omega (arith, k.edges)))))

-- A word up to `last_biased` is a number's, put back by the bias.
number_word : (n : ℕ) → n ≤ last_biased → (biased (unbiased n) ≡ n) × (between least_number greatest_number (unbiased n) ≡ true)
number_word n l = (biased_unbiased n, sym (number_span n) ∙ le-leb n last_biased l)

-- words and numbers have one order
unbiased_le : (a b : ℕ) → a ≤ b → le_z (unbiased a) (unbiased b) ≡ true
unfolding unbiased
unbiased_le a b l = go (leb bias a) refl (leb bias b) refl
  where
    go : (p : Bool) → leb bias a ≡ p → (q : Bool) → leb bias b ≡ q
        → le_z (elim p as (λ c. ℤ) [ true ↦ pos (a - bias) | false ↦ negsuc (bias - suc a) ]) (elim q as (λ c. ℤ) [ true ↦ pos (b - bias) | false ↦ negsuc (bias - suc b) ]) ≡ true
    go true p true q = le-leb (a - bias) (b - bias) (omega arith)
    go true p false q = let x = leb-true bias a p in let y = leb-false bias b q in absurd (omega arith)
    go false p true q = refl
    go false p false q = le-leb (bias - suc b) (bias - suc a) (omega arith)

biased_le : (y z : ℤ) → le_z y z ≡ true → biased y ≤ biased z
unfolding biased
biased_le (pos a) (pos b) h = let l = leb-true a b h in omega arith
biased_le (pos a) (negsuc b) h = absurd (true≢false (sym h))
biased_le (negsuc a) (pos b) h = omega arith
biased_le (negsuc a) (negsuc b) h = let l = leb-true b a h in omega arith

-- two words at a place
pub two_of : (t : List ℕ) (at a b : ℕ) (rest : List ℕ) → drop at t ≡ a ∷ b ∷ rest → First t at a (b ∷ rest) × First t (at + 1) b rest
two_of t at a b rest e = let f = first_of t at a (b ∷ rest) e in (f, first_of t (at + 1) b rest f.then)

pub two_there : (t : List ℕ) (at : ℕ) → at + 1 < length t → drop at t ≡ word t at ∷ word t (at + 1) ∷ drop (at + 1 + 1) t
two_there t at l = head_of t at (omega arith) ∙ ap (λ (s : List ℕ). word t at ∷ s) (head_of t (at + 1) l)

-- three words at a place
pub three_there : (t : List ℕ) (at : ℕ) → at + 2 < length t → drop at t ≡ word t at ∷ word t (at + 1) ∷ word t (at + 2) ∷ drop (at + 3) t
three_there t at l =
    let two : at + 1 + 1 ≡ at + 2 = omega arith in
    let three : at + 2 + 1 ≡ at + 3 = omega arith in
    two_there t at (omega arith) ∙ ap (λ (s : List ℕ). word t at ∷ word t (at + 1) ∷ s) (rw (two, ← three) (head_of t (at + 2) l))

-- an owner's word says an owner, and back
owner_said : (f w : ℕ) → owner_sound f w ≡ true → Said f (owner_from w) × (owner_word (owner_from w) ≡ w)
unfolding owner_sound owner_from owner_word owner_in_range is_early
owner_said f zero h = ((refl, refl), refl)
owner_said f (suc j) h =
    let few = leb-true (suc j) max_automata (and_left (leb (suc j) max_automata) _ h) in
    let late = leb-true owners_format f (or_other (and_right (leb (suc j) max_automata) _ h) (ne_eqb (suc j) 0 (λ e. absurd (omega arith)))) in
    ((le-leb j last_automaton (omega arith), lt-leb (suc f) owners_format (omega arith)), refl)

said_owner : (f : ℕ) (o : Choice ℕ) → Said f o → owner_sound f (owner_word o) ≡ true
unfolding owner_sound owner_word owner_in_range is_early
said_owner f none h = refl
said_owner f (some j) h =
    let few = leb-true j last_automaton h.0 in
    let late = leb-false (suc f) owners_format h.1 in
    and_intro (le-leb (suc j) max_automata (omega arith)) (or_right (eqb (suc j) 0) (le-leb owners_format f (omega arith)))

module _ (t : List ℕ) (r : Reading) (c : Counts) (k : Counted r c) (at : ℕ) where
  -- a range and an owner
  pub variable_sound_lem : (number nodes next : ℕ) → variable_at t at c.format ≡ a_line number nodes next → LineAt t r (key_of (variable_line (range (unbiased (word t at)) (unbiased (word t (at + 1)))) (owner_from (word t (at + 2))))) at number nodes next
  unfolding variable_at variable_sound number_of nodes_of line_words range
  variable_sound_lem number nodes next h =
      let a = word t at in
      let b = word t (at + 1) in
      let w = word t (at + 2) in
      let s = when_sound _ _ number nodes next h in
      let inside = ltb-true (at + 2) (length t) (and_left (ltb (at + 2) (length t)) (leb b last_biased && (leb a b && owner_sound c.format w)) s.0) in
      let tests = and_right (ltb (at + 2) (length t)) (leb b last_biased && (leb a b && owner_sound c.format w)) s.0 in
      let few = leb-true b last_biased (and_left (leb b last_biased) (leb a b && owner_sound c.format w) tests) in
      let more = and_right (leb b last_biased) (leb a b && owner_sound c.format w) tests in
      let up = leb-true a b (and_left (leb a b) (owner_sound c.format w) more) in
      let owner = owner_said r.model.format w (rw (← k.format) (and_right (leb a b) (owner_sound c.format w) more)) in
      let low = number_word a (omega arith) in
      let high = number_word b few in
      let lawful : LawfulRange (range (unbiased a) (unbiased b)) = record { low = low.1; high = high.1; ordered = unbiased_le a b up } in
      line_at_lem t r (variable_line (range (unbiased a) (unbiased b)) (owner_from w)) at number nodes next (drop (at + 3) t) (none_lacks _ ((variable_line_lem r _ _).1 (lawful, owner.0))) (three_there t at inside ∙ rw (low.0, high.0, owner.1)) s.1

  pub variable_of : (x : Range) (o : Choice ℕ) (rest : List ℕ) → fault_of r (variable_line x o) ≡ none → drop at t ≡ biased x.low ∷ biased x.high ∷ owner_word o ∷ rest → variable_at t at c.format ≡ a_line 0 0 (at + 3)
  unfolding variable_at variable_sound lacks
  variable_of x o rest g e =
      let l = (variable_line_lem r x o).0 (ap lacks g) in
      let f = two_of t at (biased x.low) (biased x.high) (owner_word o ∷ rest) e in
      let two : at + 1 + 1 ≡ at + 2 = omega arith in
      let w = first_of t (at + 2) (owner_word o) rest (rw (← two) f.1.then) in
      rw (f.0.is, f.1.is, w.is, k.format)
      (when_true _
      (and_intro (lt-ltb (at + 2) (length t) w.below)
      (and_intro (le-leb (biased x.high) last_biased (biased_small x.high l.0.high))
      (and_intro (le-leb (biased x.low) (biased x.high) (biased_le x.low x.high l.0.ordered)) (said_owner r.model.format o l.1)))))

  -- how many automata
  module _ (d : Declared t r) where
    beyond_read : (n : ℕ) → beyond_in (ranges_in t c.variables) n ≡ exists (is_beyond n) r.model.owners
    unfolding ranges_in
    beyond_read n = rw (k.variables, d.words) (beyond_is r.model.variables r.model.owners d.owners_are n)

    pub automata_sound : (number nodes next : ℕ) → automata_at t at c ≡ a_line number nodes next → LineAt t r (key_of (automata_line (word t at))) at number nodes next
    unfolding automata_at number_of nodes_of line_words
    automata_sound number nodes next h =
        let b = when_sound _ _ number nodes next h in
        let s = number_sound t at 1 max_automata number nodes next b.1 in
        let none-beyond = sym (beyond_read (word t at)) ∙ not-true _ b.0 in
        line_at_lem t r (automata_line (word t at)) at number nodes next _ (none_lacks _ ((automata_line_lem r _).1 (s.1, s.2, none-beyond))) (head_of t at s.0) s.3

    pub automata_of : (n : ℕ) (rest : List ℕ) → fault_of r (automata_line n) ≡ none → drop at t ≡ n ∷ rest → automata_at t at c ≡ a_line n 0 (at + 1)
    unfolding automata_at lacks
    automata_of n rest g e =
        let l = (automata_line_lem r n).0 (ap lacks g) in
        let f = first_of t at n rest e in
        when_true _ (ap not (ap (beyond_in (ranges_in t c.variables)) f.is ∙ beyond_read n ∙ l.2)) ∙ number_of_lem t at 1 max_automata n rest e l.0 l.1

-- a list that rises up to 63 holds nothing above it: so says row 5's own law, of a reading with so many actions
rises_few : (r : Reading) (A : ℕ) (list : List ℕ) → A ≤ max_actions → rises A 0 list ≡ true → every (λ k. leb k max_actions) list ≡ true
unfolding noted with_model fault_of numbers_in_range
rises_few r A list few h =
    not-false _ (unbroken 3 _ _ (none_lacks _ ((sync_line_lem (noted r (actions_line A)) list few).1 h))).0

module _ (t : List ℕ) (r : Reading) (c : Counts) (k : Counted r c) (at : ℕ) where
  -- a set
  pub sync_sound : every (λ w. ltb w 4294967296) t ≡ true → (number nodes next : ℕ) → sync_at t at c.actions ≡ a_line number nodes next → LineAt t r (key_of (sync_line (set_of (word t at) (word t (at + 1))))) at number nodes next
  unfolding sync_at number_of nodes_of line_words fault_of numbers_in_range content_fault set_words
  sync_sound fit number nodes next h =
      let a = word t at in
      let b = word t (at + 1) in
      let list = set_of a b in
      let s = when_sound _ _ number nodes next h in
      let inside = ltb-true (at + 1) (length t) (and_left (ltb (at + 1) (length t)) (rises (capped c.actions) 0 list) s.0) in
      let up = and_right (ltb (at + 1) (length t)) (rises (capped c.actions) 0 list) s.0 in
      let few = rises_few r (capped c.actions) list (capped_few c.actions) up in
      let rising : rises r.model.actions 0 list ≡ true = rw (← k.actions) (sym (rises_capped c.actions 0 list few) ∙ up) in
      let a-fits = ltb-true a 4294967296 (every_at (λ w. ltb w 4294967296) 0 refl t fit at) in
      let b-fits = ltb-true b 4294967296 (every_at (λ w. ltb w 4294967296) 0 refl t fit (at + 1)) in
      let words : set_words list ≡ a ∷ b ∷ [] = words_back a b a-fits b-fits in
      line_at_lem t r (sync_line list) at number nodes next (drop (at + 1 + 1) t) (mended 3 (ap not few) (mended 5 (ap not rising) refl)) (two_there t at inside ∙ ap (λ (l : List ℕ). l ++ drop (at + 1 + 1) t) (sym words)) s.1

  pub sync_of : (list rest : List ℕ) → fault_of r (sync_line list) ≡ none → drop at t ≡ set_words list ++ rest → sync_at t at c.actions ≡ a_line 0 0 (at + 2)
  unfolding sync_at set_words fault_of numbers_in_range content_fault
  sync_of list rest g e =
      let row3 = unbroken 3 _ _ g in
      let few = not-false (every (λ j. leb j max_actions) list) row3.0 in
      let up = not-false (rises r.model.actions 0 list) (unbroken 5 _ _ row3.1).0 in
      let f = two_of t at (low_bits list) (high_bits list) rest e in
      let rising : rises (capped c.actions) 0 list ≡ true = rises_capped c.actions 0 list few ∙ rw k.actions up in
      rw (f.0.is, f.1.is, set_back r.model.actions list up few) (when_true _ (and_intro (lt-ltb (at + 1) (length t) f.1.below) rising))
