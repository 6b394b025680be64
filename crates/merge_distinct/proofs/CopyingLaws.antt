-- Each way out of the code of src/copying.rt.
use mathlib.Core.Path.{◌≡◌, sym, ap, ◌∙◌}
use mathlib.Core.List.{List, [], ◌∷◌}
use Prim.Native.Nat.{ℕ, suc, ◌+◌, ◌-◌, ◌≤◌, ◌<◌, min}
use native.Mathlib.Omega.{arith}
use native.Mathlib.Numerals.{add-one}
use lib.ListN.{length, get_or, take, drop, drop_of_length-le}
use lib.Seq.{drop-cons}
use Rattle.table_places.specs.declared.layout.Layout.{Layout}
use Rattle.table_places.specs.Layout.{automata_of}
use Rattle.merge_append.specs.declared.append.Filling.{Filling}
use Rattle.merge_append.specs.Append.{Filled}
use Rattle.merge_append.specs.Runs.{run}
use Rattle.merge_append.proofs.AppendLaws.{Underway, begun, on_by, ended, then_filled}
use Rattle.merge_distinct.specs.Equality.{edge_length}
use Rattle.merge_distinct.specs.Firsts.{first_ones, Gathered}
use Rattle.merge_distinct.proofs.FirstsLaws.{first_of}
use Rattle.merge_distinct.specs.Distinct.{part, edge_words, automaton_words, automata_words}

-- `part`
pub part_is : (t : List ℕ) (from to d : ℕ) (old new : Filling) → d ≡ to - from
    → Filled (run t from d) old new → Filled (part t from to) old new
unfolding part
part_is t from to d old new e a = rw (← e) a

-- `edge`
pub edge_is : (t : List ℕ) (place n : ℕ) (old new : Filling) → n ≡ edge_length t place
    → Filled (run t place n) old new → Filled (run t place (edge_length t place)) old new
edge_is t place n old new e a = rw (← e) a

-- `edges`: what is copied and what is left make up the whole
module _ (t items whole : List ℕ) (old now : Filling) (i : ℕ)
    (u : Underway whole old (edge_words t (drop i items)) now) where
  pub edges_turn : i < length items → (p : ℕ) (new : Filling) → p ≡ get_or items i 0
      → Filled (run t p (edge_length t p)) now new
      → Underway whole old (edge_words t (drop (i + 1) items)) new
  unfolding edge_words
  edges_turn h p new e a =
      let one : drop i items ≡ get_or items i 0 ∷ drop (i + 1) items = rw (add-one i) (drop-cons items i 0 h) in
      on_by u (ap (edge_words t) (one ∙ ap (λ (q : ℕ). q ∷ drop (i + 1) items) (sym e))) a

  edges_done : length items ≤ i → Filled whole old now
  unfolding edge_words
  edges_done h = ended u (ap (edge_words t) (drop_of_length-le items h))

pub edges_end : (t firsts : List ℕ) (old now : Filling) (n m i : ℕ) → length firsts ≡ 512 → m ≡ min n 512
    → length (take m firsts) ≤ i
    → Underway (edge_words t (take m firsts)) old (edge_words t (drop i (take m firsts))) now
    → Filled (edge_words t (take n firsts)) old now
edges_end t firsts old now n m i long e h u =
    let a : Filled (edge_words t (take m firsts)) old now =
    edges_done t (take m firsts) (edge_words t (take m firsts)) old now i u h in
    rw (first_of firsts n m long e) at a

pub ruleset edges_laws = (begun, edges_turn, edges_end)

-- `automaton`
pub automaton_is : (t firsts : List ℕ) (set place n : ℕ) (old mid new last : Filling)
    → Gathered (first_ones t place) firsts n → Filled (part t set place) old mid
    → Filled (n ∷ []) mid new → Filled (edge_words t (take n firsts)) new last
    → Filled (automaton_words t set place) old last
unfolding automaton_words
automaton_is t firsts set place n old mid new last g p q s =
    let e : take n firsts ≡ first_ones t place = g.stands in
    let f : n ≡ length (first_ones t place) = g.count in
    rw (← f, ← e) (then_filled p (then_filled q s))

-- `automata`: what is copied and what is left make up the whole
pub automata_begun : (t sets places : List ℕ) (count : ℕ) (old : Filling)
    → Underway (automata_words t sets places 0 count) old (automata_words t sets places 0 (count - 0)) old
automata_begun t sets places count old =
    let z : count - 0 ≡ count = omega arith in rw z (begun (automata_words t sets places 0 count) old)

module _ (t sets places : List ℕ) (old now : Filling) (count i : ℕ)
    (u : Underway (automata_words t sets places 0 count) old (automata_words t sets places i (count - i)) now) where
  pub automata_turn : i < count → (set place : ℕ) (new : Filling) → set ≡ get_or sets i 0 → place ≡ get_or places i 0
      → Filled (automaton_words t set place) now new
      → Underway (automata_words t sets places 0 count) old
      (automata_words t sets places (i + 1) (count - (i + 1))) new
  unfolding automata_words
  automata_turn h set place new es ep a =
      let n : count - i ≡ suc (count - (i + 1)) = omega arith in
      on_by u (ap (automata_words t sets places i) n) (rw (es, ep) at a)

  pub automata_end : count ≤ i → (x : Layout) → sets ≡ x.sets → places ≡ x.edges → count ≡ automata_of x
      → Filled (automata_words t x.sets x.edges 0 (automata_of x)) old now
  unfolding automata_words automata_of
  automata_end h x es ep ec =
      let n : count - i ≡ 0 = omega arith in rw (← es, ← ep, ← ec) (ended u (ap (automata_words t sets places i) n))

pub ruleset automata_laws = (automata_begun, automata_turn, automata_end)
