-- Each way out of the code of src/moves.rt.
use mathlib.Core.Path.{◌≡◌, refl, ap, ap₂, ◌∙◌, subst}
use mathlib.Core.Bool.{Bool, true, false}
use mathlib.Core.List.{List}
use Prim.Native.Nat.{ℕ, suc, ◌+◌, ◌-◌, ◌≤◌, ◌<◌, min}
use Rattle.std.proofs.Common.{inl, inr}
use Rattle.std.proofs.lemmas.Bool.{cases_lt}
use native.Mathlib.Omega.{arith}
use native.Mathlib.Numerals.{add-one}
use lib.ListN.{length, get_or, set, replicate, length-set}
use lib.Seq.{sets}
use Rattle.model.specs.Bounds.{max_tree_nodes}
use Rattle.table_places.specs.declared.layout.Layout.{Layout}
use Rattle.table_places.specs.Outline.{nodes_place, after_predicate, update_place, first_edge}
use Rattle.table_places.specs.Layout.{automata_of}
use Rattle.table_places.proofs.CodeLaws.{at_most_all, at_most_cut}
use Rattle.merge_moves.specs.declared.planning.Planned.{Planned}
use Rattle.merge_moves.specs.Plan.{PlansTree}
use Rattle.merge_moves.specs.Pick.{pick_at}
use Rattle.merge_append.specs.Append.{narrow}
use Rattle.merge_append.specs.NodeWords.{capped}
use Rattle.merge_takers.specs.declared.moves.ActionPlan.{ActionPlan}
use Rattle.merge_takers.specs.Taking.{is_under, takers}
use Rattle.merge_takers.specs.Moves.{one_more, under_from, under_at, counts_from, counts_of, root_of, cells_of}
use Rattle.merge_takers.specs.Moves.{move_total, plan_of, picks_of, places_of, last_action, moves_of, moves_in}

-- `one_more_lem`
module _ (here : Bool) (sum : ℕ) where
  pub more_here : here ≡ true → (r : ℕ) → r ≡ capped (sum + 1) → r ≡ one_more here sum
  unfolding one_more
  more_here h r e = rw (h, e)

  pub more_not : here ≡ false → sum ≡ one_more here sum
  unfolding one_more
  more_not h = rw h

-- `under`
module _ (t : List ℕ) (action count i place sum whole : ℕ) (u : under_from t action (count - i) place sum ≡ whole) where
  pub under_turn : i < count → (here : Bool) (s p r : ℕ) → here ≡ is_under t action place → s ≡ one_more here sum
      → p ≡ update_place t place → r ≡ after_predicate t p → under_from t action (count - (i + 1)) r s ≡ whole
  unfolding under_from
  under_turn h here s p r eh es ep er =
      let n : count - i ≡ suc (count - (i + 1)) = omega arith in
      rw (er, ep, es, eh) (rw n at u)

  pub under_end : count ≤ i → sum ≡ whole
  unfolding under_from
  under_end h = let z : count - i ≡ 0 = omega arith in rw z at u

-- `under_at`
pub under_is : (t : List ℕ) (action edges f n r : ℕ) → f ≡ first_edge t edges → n ≡ get_or t edges 0
    → r ≡ under_from t action n f 0 → r ≡ under_at t action edges
unfolding under_at
under_is t action edges f n r ef en er = rw (er, ef, en)

-- `counts_of`: the counts so far, and those to come
pub record Counting (t edges : List ℕ) (action count i : ℕ) (under : List ℕ) : Type 0 where
  pub whole : sets under i (counts_from t edges action i (count - i))
      ≡ sets (replicate 16 0) 0 (counts_from t edges action 0 count)
  pub few : count ≤ 16
  pub long : length under ≡ 16

module _ (t edges : List ℕ) (action : ℕ) where
  pub counting_begun : (count : ℕ) → count ≤ 16 → Counting t edges action count 0 (replicate 16 0)
  counting_begun count few =
      let z : count - 0 ≡ count = omega arith in
      record {
        whole = ap
            (λ (k : ℕ). sets (replicate 16 0) 0 (counts_from t edges action 0 k)) z;
        few = few;
        long = refl;
      }

  module _ (count i : ℕ) (under : List ℕ) (u : Counting t edges action count i under) where
    pub counting_turn : i < count → (place w x : ℕ) → place ≡ get_or edges i 0 → w ≡ under_at t action place
        → x ≡ narrow w → Counting t edges action count (i + 1) (set under i x)
    unfolding counts_from
    counting_turn h place w x ep ew ex =
        let n : count - i ≡ suc (count - (i + 1)) = omega arith in
        record {
          whole = let e = u.whole in rw (add-one i, ex, ew, ep) (rw (n, add-one i) at e);
          few = u.few;
          long = length-set under i x ∙ u.long;
        }

    pub counting_end : (x : Layout) → edges ≡ x.edges → count ≡ automata_of x → count ≤ i → under ≡ counts_of t x action
    unfolding counts_from counts_of automata_of
    counting_end x ee ec h = let z : count - i ≡ 0 = omega arith in rw (← ee, ← ec) (rw z at u.whole)

pub ruleset counting_laws = (counting_begun, counting_turn, counting_end)

-- `plan`
pub plan_is : (t own : List ℕ) (x : Layout) (root action a : ℕ) (under after : List ℕ) (r : Planned)
    → root ≡ nodes_place t x.tree → a ≡ action → under ≡ counts_of t x a
    → PlansTree t own under action root max_tree_nodes root (replicate 192 0) after r
    → record { cells = after; count = r.count } ≡ plan_of t x own action
unfolding plan_of cells_of move_total
plan_is t own x root action a under after r er ea eu h =
    let u : under ≡ counts_of t x action = eu ∙ ap (counts_of t x) ea in
    let g : PlansTree t own under action (root_of t x) max_tree_nodes (root_of t x) (replicate 192 0) after r =
    subst (λ (k : ℕ). PlansTree t own under action k max_tree_nodes k (replicate 192 0) after r) er h in
    let cells : after ≡ cells_of t x own action = g.cells ∙ rw u in
    let count : r.count ≡ move_total t x own action = ap (λ (q : Planned). q.count) g.answer ∙ rw u in
    ap₂ (λ (c : List ℕ) (n : ℕ). record { cells = c; count = n }) cells count

-- `places_of`
pub places_are : (t cells : List ℕ) (x : Layout) (root action k : ℕ) (picks places : List ℕ)
    → root ≡ nodes_place t x.tree → picks ≡ pick_at t cells root max_tree_nodes root k (replicate 16 0)
    → places ≡ takers t x action picks → places ≡ places_of t x cells action k
unfolding places_of picks_of
places_are t cells x root action k picks places er ek el =
    el ∙ ap (takers t x action) (ek ∙ ap (λ j. pick_at t cells j max_tree_nodes j k (replicate 16 0)) er)

-- `last_action`
pub last_all : (x : Layout) → x.actions ≤ 63 → x.actions ≡ last_action x
unfolding last_action
last_all x h = at_most_all 63 x.actions h

pub last_is : (x : Layout) (r : ℕ) → r ≡ min x.actions 63 → r ≡ last_action x
unfolding last_action
last_is x r e =
    elim (cases_lt 63 x.actions) [
      | inl h ↦ let z : r ≡ 63 = omega arith in z ∙ at_most_cut 63 x.actions h
      | inr h ↦ let z : r ≡ x.actions = omega arith in z ∙ last_all x h
    ]

-- `action_moves`
pub total_is : (t own : List ℕ) (x : Layout) (action : ℕ) (p : ActionPlan) → p ≡ plan_of t x own action
    → p.count ≡ move_total t x own action
unfolding plan_of
total_is t own x action p e = ap (λ (q : ActionPlan). q.count) e

-- `all_moves`
pub all_moves_begun : (t own : List ℕ) (x : Layout) (last : ℕ) → last ≡ last_action x
    → moves_of t x own 0 (last + 1 - 0) 0 ≡ moves_in t x own
unfolding moves_in
all_moves_begun t own x last e = let z : last + 1 - 0 ≡ last + 1 = omega arith in rw (z, e)

module _ (t own : List ℕ) (x : Layout) (action last sum whole : ℕ)
    (u : moves_of t x own action (last + 1 - action) sum ≡ whole) (h : action ≤ last) (c n s : ℕ)
    (ec : c ≡ move_total t x own action) (en : n ≡ c) (es : s ≡ capped (sum + n)) where
  pub all_moves_turn : moves_of t x own (action + 1) (last + 1 - (action + 1)) s ≡ whole
  unfolding moves_of
  all_moves_turn =
      let z : last + 1 - action ≡ suc (last + 1 - (action + 1)) = omega arith in
      rw (es, en, ec) (rw z at u)

  -- after the last action none is left
  pub all_moves_last : last ≤ action → s ≡ whole
  unfolding moves_of
  all_moves_last k = let z : last + 1 - (action + 1) ≡ 0 = omega arith in rw z at all_moves_turn

-- what the equations in src/moves.rt need
pub ruleset move_laws = (
  more_here,
  more_not,
  under_turn,
  under_end,
  under_is,
  places_are,
  last_is,
  total_is,
  all_moves_begun,
  all_moves_turn,
  all_moves_last,
)
