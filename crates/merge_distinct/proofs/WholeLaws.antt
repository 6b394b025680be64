-- Each way out of the code of src/lib.rt.
use mathlib.Core.Path.{◌≡◌}
use mathlib.Core.Bool.{Bool, true, false}
use mathlib.Core.List.{List}
use Prim.Native.Nat.{ℕ, suc, ◌+◌, ◌-◌, ◌≤◌, ◌<◌}
use native.Mathlib.Omega.{arith}
use lib.ListN.{length, get_or}
use lib.Dec.{eqb}
use borrow.Author.Tests.{eq-eqb, ne_eqb}
use Rattle.table_places.specs.declared.layout.Layout.{Layout}
use Rattle.table_places.specs.Outline.{first_automaton}
use Rattle.table_places.specs.Layout.{automata_of}
use Rattle.table_places.specs.Starts.{starts_at, start_count, first_start, start_at}
use Rattle.merge_append.specs.declared.append.Filling.{Filling}
use Rattle.merge_append.specs.Append.{Filled}
use Rattle.merge_append.proofs.AppendLaws.{then_filled}
use Rattle.merge_distinct.specs.Firsts.{edges_of, first_ones, Gathered}
use Rattle.merge_distinct.specs.Distinct.{repeats_from, repeats_in, part, automata_words, tree_end, distinct_words}

-- `repeats`: from each turn on, the definition goes on to the same answer
pub repeats_begun : (t places : List ℕ) (count : ℕ)
    → repeats_from t places 0 (count - 0) ≡ repeats_from t places 0 count
repeats_begun t places count = let z : count - 0 ≡ count = omega arith in rw z

module _ (t places : List ℕ) (i count : ℕ) (x : Layout) (ep : places ≡ x.edges) (ec : count ≡ automata_of x)
    (u : repeats_from t places i (count - i) ≡ repeats_from t places 0 count) where
  -- the answer is the definition's
  whole : repeats_from t places i (count - i) ≡ repeats_in t x
  unfolding repeats_in repeats_from automata_of
  whole = rw (← ep, ← ec) u

  pub repeats_end : count ≤ i → false ≡ repeats_in t x
  unfolding repeats_from
  repeats_end h = let z : count - i ≡ 0 = omega arith in rw z at whole

  pub repeats_here : i < count → (edges n k : ℕ) (firsts : List ℕ) → edges ≡ get_or places i 0
      → Gathered (first_ones t edges) firsts n → k ≡ edges_of t edges → (n ≡ k → ⊥)
      → true ≡ repeats_in t x
  unfolding repeats_from
  repeats_here h edges n k firsts ee g ek y =
      let z : count - i ≡ suc (count - (i + 1)) = omega arith in
      let c : n ≡ length (first_ones t edges) = g.count in
      let differ : eqb (length (first_ones t (get_or places i 0))) (edges_of t (get_or places i 0)) ≡ false =
      rw (← ee, ← c, ← ek) (ne_eqb n k y) in
      rw (z, differ, repeats_from) at whole

pub repeats_on : (t places : List ℕ) (i count : ℕ) (whole : Bool) → repeats_from t places i (count - i) ≡ whole
    → i < count → (edges n k : ℕ) (firsts : List ℕ) → edges ≡ get_or places i 0
    → Gathered (first_ones t edges) firsts n → k ≡ edges_of t edges → n ≡ k
    → repeats_from t places (i + 1) (count - (i + 1)) ≡ whole
unfolding repeats_from
repeats_on t places i count whole u h edges n k firsts ee g ek e =
    let z : count - i ≡ suc (count - (i + 1)) = omega arith in
    let c : n ≡ length (first_ones t edges) = g.count in
    let equal : eqb (length (first_ones t (get_or places i 0))) (edges_of t (get_or places i 0)) ≡ true =
    rw (← ee, ← c, ← ek) (eq-eqb n k e) in
    rw (z, equal, repeats_from) at u

pub ruleset repeats_laws = (repeats_begun, repeats_end, repeats_here, repeats_on)

-- `tree_end`
pub tree_end_is : (t : List ℕ) (x : Layout) (at first count r : ℕ) → at ≡ starts_at t x.tree → first ≡ first_start t at
    → count ≡ start_count t at
    → r ≡ start_at t first count → r ≡ tree_end t x
unfolding tree_end
tree_end_is t x at first count r e f g h = rw (h, f, g, e)

-- `distinct`
pub distinct_is : (t : List ℕ) (x : Layout) (first end : ℕ) (old mid new last : Filling)
    → first ≡ first_automaton t → Filled (part t 0 first) old mid
    → Filled (automata_words t x.sets x.edges 0 (automata_of x)) mid new → end ≡ tree_end t x
    → Filled (part t x.tree end) new last → Filled (distinct_words t x) old last
unfolding distinct_words
distinct_is t x first end old mid new last ef p q ee s = rw (← ef, ← ee) (then_filled p (then_filled q s))
