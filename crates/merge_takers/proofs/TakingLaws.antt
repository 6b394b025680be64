-- Each way out of the code of src/taking.rt.
use mathlib.Core.Path.{◌≡◌, refl, ap, ◌∙◌}
use mathlib.Core.Bool.{Bool, true, false, ◌&&◌}
use mathlib.Core.List.{List}
use Prim.Native.Nat.{ℕ, zero, suc, ◌+◌, ◌-◌, ◌≤◌, ◌<◌}
use native.Mathlib.Omega.{arith}
use native.Mathlib.Numerals.{add-one}
use lib.ListN.{length, get_or, set, replicate, length-set}
use lib.Seq.{sets}
use lib.Dec.{eqb}
use borrow.Author.Tests.{eq-eqb, ne_eqb}
use Rattle.table_places.specs.declared.layout.Layout.{Layout}
use Rattle.table_places.specs.Outline.{after_predicate, edge_action, update_place, first_edge}
use Rattle.table_places.specs.Layout.{automata_of}
use Rattle.merge_takers.specs.Taking.{is_under, still, edge_under, taken_at, taken_from, takers}

-- `is_under`
pub is_under_lem : (t : List ℕ) (action at w : ℕ) → w ≡ edge_action t at → eqb w action ≡ is_under t action at
unfolding is_under
is_under_lem t action at w e = rw e

-- `still`
pub still_here : (here : Bool) (j r : ℕ) → here ≡ true → r ≡ j - 1 → r ≡ still here j
unfolding still
still_here here zero r h e = rw (h, e)
still_here here (suc j) r h e =
    let y : suc j ≡ 0 → ⊥ = λ (q : suc j ≡ 0). cc in
    rw (h, e, ne_eqb (suc j) 0 y, still)

pub still_same : (here : Bool) (j : ℕ) → here ≡ false → j ≡ still here j
unfolding still
still_same here j h = rw h

-- `find`
module _ (t : List ℕ) (action skip count i place whole : ℕ)
    (u : edge_under t action skip (count - i) place ≡ whole) where
  pub find_none : count ≤ i → length t ≡ whole
  unfolding edge_under
  find_none h = let z : count - i ≡ 0 = omega arith in rw z at u

  module _ (h : i < count) (here : Bool) (e : here ≡ is_under t action place) where
    pub find_here : (here && eqb skip 0) ≡ true → place ≡ whole
    unfolding edge_under
    find_here k =
        let n : count - i ≡ suc (count - (i + 1)) = omega arith in
        let v = rw n at u in
        rw (rw e at k, edge_under) at v

    pub find_on : (here && eqb skip 0) ≡ false → (s p r : ℕ) → s ≡ still here skip → p ≡ update_place t place
        → r ≡ after_predicate t p → edge_under t action s (count - (i + 1)) r ≡ whole
    unfolding edge_under
    find_on k s p r es ep er =
        let n : count - i ≡ suc (count - (i + 1)) = omega arith in
        let v = rw n at u in
        rw (es, er, ep, e) (rw (rw e at k, edge_under) at v)

-- `taken`
module _ (t : List ℕ) (action pick edges : ℕ) where
  pub taken_none : pick ≡ 0 → 0 ≡ taken_at t action pick edges
  unfolding taken_at
  taken_none z = rw (eq-eqb pick 0 z, taken_at)

  pub taken_is : (pick ≡ 0 → ⊥) → (f n r : ℕ) → f ≡ first_edge t edges → n ≡ get_or t edges 0
      → r ≡ edge_under t action (pick - 1) n f → r ≡ taken_at t action pick edges
  unfolding taken_at
  taken_is y f n r ef en er = rw (ne_eqb pick 0 y, taken_at, ← ef, ← en) er

-- what the equations in src/taking.rt need
pub ruleset taken_laws = (is_under_lem, still_here, still_same, find_none, find_here, find_on, taken_none, taken_is)

-- `takers_of`: the places so far, and those to come
pub record Taking (t edges : List ℕ) (action : ℕ) (picks : List ℕ) (count i : ℕ) (places : List ℕ) : Type 0 where
  pub whole : sets places i (taken_from t edges action picks i (count - i))
      ≡ sets (replicate 16 0) 0 (taken_from t edges action picks 0 count)
  pub few : count ≤ 16
  pub long : length places ≡ 16

module _ (t edges : List ℕ) (action : ℕ) (picks : List ℕ) where
  pub taking_begun : (count : ℕ) → count ≤ 16 → Taking t edges action picks count 0 (replicate 16 0)
  taking_begun count few =
      let z : count - 0 ≡ count = omega arith in
      record {
        whole = ap
            (λ (k : ℕ). sets (replicate 16 0) 0 (taken_from t edges action picks 0 k)) z;
        few = few;
        long = refl;
      }

  module _ (count i : ℕ) (places : List ℕ) (u : Taking t edges action picks count i places) where
    pub taking_turn : i < count → (w place x : ℕ) → w ≡ get_or picks i 0 → place ≡ get_or edges i 0
        → x ≡ taken_at t action w place → Taking t edges action picks count (i + 1) (set places i x)
    unfolding taken_from
    taking_turn h w place x ew ep ex =
        let n : count - i ≡ suc (count - (i + 1)) = omega arith in
        record {
          whole = let e = u.whole in rw (add-one i, ex, ew, ep) (rw (n, add-one i) at e);
          few = u.few;
          long = length-set places i x ∙ u.long;
        }

    pub taking_end : (x : Layout) → edges ≡ x.edges → count ≡ automata_of x → count ≤ i
        → places ≡ takers t x action picks
    unfolding taken_from takers automata_of
    taking_end x ee ec h = let z : count - i ≡ 0 = omega arith in rw (← ee, ← ec) (rw z at u.whole)

pub ruleset taking_laws = (taking_begun, taking_turn, taking_end)
