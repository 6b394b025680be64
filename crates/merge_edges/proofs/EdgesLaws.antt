-- Each way out of the code of src/edges.rt.
use mathlib.Core.Path.{◌≡◌, sym, ap, ◌∙◌}
use mathlib.Core.List.{List, ◌∷◌, ◌++◌}
use Prim.Native.Nat.{ℕ, suc, ◌+◌, ◌-◌, ◌≤◌, ◌<◌}
use native.Mathlib.Omega.{arith}
use lib.ListN.{length, get_or, drop}
use borrow.Author.Tests.{eq-eqb, ne_eqb}
use Rattle.table_places.specs.Outline.{reach, edge_action}
use Rattle.merge_append.specs.declared.append.Filling.{Filling}
use Rattle.merge_append.specs.Append.{Filled}
use Rattle.merge_append.specs.Runs.{run}
use Rattle.merge_append.proofs.AppendLaws.{Underway, begun, on_by, ended}
use Rattle.merge_edges.specs.Edge.{edge_by}
use Rattle.merge_edges.specs.Edges.{action_at, edge_of, edges_from}
use Rattle.merge_edges.proofs.EdgeLaws.{one_more_lem, no_more}

-- `action_of`
module _ (t places : List ℕ) (i whole : ℕ) (e : length places ≡ 16) (u : action_at t (drop i places) ≡ whole) where
  pub action_none : 16 ≤ i → 0 ≡ whole
  unfolding action_at
  action_none h = sym (ap (action_at t) (no_more places i e h)) ∙ u

  module _ (h : i < 16) (p : ℕ) (ep : p ≡ get_or places i 0) where
    split_action : action_at t (p ∷ drop (i + 1) places) ≡ whole
    split_action = rw ep (sym (ap (action_at t) (one_more_lem places i e h)) ∙ u)

    pub action_here : (p ≡ 0 → ⊥) → (r : ℕ) → r ≡ edge_action t p → r ≡ whole
    unfolding action_at
    action_here y r er = er ∙ (rw (ne_eqb p 0 y, action_at) at split_action)

    pub action_on : p ≡ 0 → action_at t (drop (i + 1) places) ≡ whole
    unfolding action_at
    action_on z = rw (eq-eqb p 0 z, action_at) at split_action

-- what the equations in src/edges.rt need
pub ruleset action_laws = (action_none, action_here, action_on)

-- `edge`
pub edge_is : (t places : List ℕ) (v action : ℕ) (old new : Filling) → action ≡ action_at t places
    → Filled (edge_by t v action places) old new → Filled (edge_of t v places) old new
unfolding edge_of
edge_is t places v action old new e a = rw (← e) a

-- `all_edges`
module _ (t list whole : List ℕ) (old now : Filling) (v place count i : ℕ)
    (u : Underway whole old (edges_from t v list place (count - i)) now) where
  pub all_turn : i < count → (places : List ℕ) (p : ℕ) (new : Filling) → places ≡ run list place 16
      → Filled (edge_of t v places) now new → p ≡ reach list place 16
      → Underway whole old (edges_from t v list p (count - (i + 1))) new
  unfolding edges_from
  all_turn h places p new e a f =
      let n : count - i ≡ suc (count - (i + 1)) = omega arith in
      let others = edges_from t v list (reach list place 16) (count - (i + 1)) in
      rw f (on_by u (ap (edges_from t v list place) n ∙ ap (λ (l : List ℕ). edge_of t v l ++ others) (sym e)) a)

  pub all_end : count ≤ i → Filled whole old now
  unfolding edges_from
  all_end h = let z : count - i ≡ 0 = omega arith in ended u (ap (edges_from t v list place) z)

pub all_begun : (t list : List ℕ) (v count : ℕ) (old : Filling)
    → Underway (edges_from t v list 0 count) old (edges_from t v list 0 (count - 0)) old
all_begun t list v count old =
    let z : count - 0 ≡ count = omega arith in rw z (begun (edges_from t v list 0 count) old)

pub ruleset all_laws = (all_begun, all_turn, all_end)
