-- Each way out of the code of src/gathering.rt.
use mathlib.Core.Path.{◌≡◌, refl, ap, ◌∙◌}
use mathlib.Core.List.{List}
use Prim.Native.Nat.{ℕ, suc, ◌+◌, ◌-◌, ◌≤◌, ◌<◌}
use native.Mathlib.Omega.{arith}
use native.Mathlib.Numerals.{add-one}
use lib.ListN.{length, get_or, set, replicate, length-set}
use lib.Seq.{sets}
use borrow.Author.Tests.{lt-ltb, le-ltb}
use Rattle.model.specs.Bounds.{max_edges}
use Rattle.table_places.specs.declared.layout.Layout.{Layout}
use Rattle.table_places.specs.Outline.{reach}
use Rattle.merge_append.specs.declared.append.Filling.{Filling}
use Rattle.merge_append.specs.Append.{Filled}
use Rattle.merge_append.specs.Runs.{run}
use Rattle.merge_append.proofs.AppendLaws.{Underway, begun, on_by, ended}
use Rattle.merge_takers.specs.declared.moves.ActionPlan.{ActionPlan}
use Rattle.merge_takers.specs.Moves.{plan_of, places_of, last_action, moves_in}
use Rattle.merge_takers.specs.Gather.{takers_from, takers_under, takers_of, takers_in, gathered, gathered_length}

-- `gather_move`
pub move_is : (t cells places : List ℕ) (x : Layout) (action k : ℕ) (old new : Filling)
    → places ≡ places_of t x cells action k → Filled places old new → Filled (places_of t x cells action k) old new
move_is t cells places x action k old new e a = rw (← e) a

-- `gather_moves`
pub moves_begun : (t cells : List ℕ) (x : Layout) (action count : ℕ) (old : Filling)
    → Underway (takers_from t x cells action 0 count) old (takers_from t x cells action 0 (count - 0)) old
moves_begun t cells x action count old =
    let z : count - 0 ≡ count = omega arith in rw z (begun (takers_from t x cells action 0 count) old)

module _ (t cells whole : List ℕ) (old now : Filling) (x : Layout) (action k count : ℕ)
    (u : Underway whole old (takers_from t x cells action k (count - k)) now) where
  pub moves_turn : k < count → (new : Filling) → Filled (places_of t x cells action k) now new
      → Underway whole old (takers_from t x cells action (k + 1) (count - (k + 1))) new
  unfolding takers_from
  moves_turn h new a =
      let n : count - k ≡ suc (count - (k + 1)) = omega arith in on_by u (ap (takers_from t x cells action k) n) a

  pub moves_end : count ≤ k → Filled whole old now
  unfolding takers_from
  moves_end h = let n : count - k ≡ 0 = omega arith in ended u (ap (takers_from t x cells action k) n)

pub ruleset moves_laws = (moves_begun, moves_turn, moves_end)

-- `gather_action`
pub action_is : (t own : List ℕ) (x : Layout) (action a : ℕ) (old new : Filling) (p : ActionPlan)
    → p ≡ plan_of t x own action → a ≡ action
    → Filled (takers_from t x p.cells a 0 p.count) old new → Filled (takers_under t x own action) old new
unfolding takers_under plan_of
action_is t own x action a old new p ep e h = rw (ep, e) at h

-- `gather_all`
pub all_begun : (t own : List ℕ) (x : Layout) (last : ℕ) (old : Filling) → last ≡ last_action x
    → Underway (takers_in t x own) old (takers_of t x own 0 (last + 1 - 0)) old
unfolding takers_in
all_begun t own x last old e =
    let z : last + 1 - 0 ≡ last + 1 = omega arith in rw (z, e) (begun (takers_of t x own 0 (last_action x + 1)) old)

module _ (t own whole : List ℕ) (old now : Filling) (x : Layout) (action last : ℕ)
    (u : Underway whole old (takers_of t x own action (last + 1 - action)) now) where
  pub all_turn : action ≤ last → (new : Filling) → Filled (takers_under t x own action) now new
      → Underway whole old (takers_of t x own (action + 1) (last + 1 - (action + 1))) new
  unfolding takers_of
  all_turn h new a =
      let n : last + 1 - action ≡ suc (last + 1 - (action + 1)) = omega arith in on_by u
      (ap (takers_of t x own action) n) a

  -- after the last action none is left
  pub all_last : action ≤ last → last ≤ action → (new : Filling) → Filled (takers_under t x own action) now new
      → Filled whole old new
  unfolding takers_of
  all_last h k new a =
      let n : last + 1 - (action + 1) ≡ 0 = omega arith in
      ended (all_turn h new a) (ap (takers_of t x own (action + 1)) n)

pub ruleset all_laws = (all_begun, all_turn, all_last)

-- `gather`
module _ (t own old : List ℕ) (x : Layout) (count : ℕ) (e : count ≡ moves_in t x own) where
  pub gather_none : max_edges < count → old ≡ gathered t x own old
  unfolding gathered
  gather_none h = rw (← e, lt-ltb max_edges count h, gathered)

  pub gather_is : count ≤ max_edges → (new : Filling)
      → Filled (takers_in t x own) (record { words = old; length = 0 }) new → new.words ≡ gathered t x own old
  unfolding gathered
  gather_is h new a = rw (← e, le-ltb max_edges count h, gathered) a.added.memory

  pub length_none : max_edges < count → (long : ℕ) → long ≡ gathered_length t x own long
  unfolding gathered_length
  length_none h long = rw (← e, lt-ltb max_edges count h, gathered_length)

  pub length_is : count ≤ max_edges → (before : ℕ) (new : Filling)
      → Filled (takers_in t x own) (record { words = old; length = 0 }) new → new.length ≡ gathered_length t x own before
  unfolding gathered_length
  length_is h before new a = rw (← e, le-ltb max_edges count h, gathered_length) a.added.next

pub ruleset gather_laws = (gather_none, gather_is, length_none, length_is)

-- `places_at`: the places so far, and those to come
pub record Reading (list : List ℕ) (at place i : ℕ) (places : List ℕ) : Type 0 where
  pub whole : sets places i (run list place (16 - i)) ≡ sets (replicate 16 0) 0 (run list at 16)
  pub long : length places ≡ 16

pub reading_begun : (list : List ℕ) (at : ℕ) → Reading list at at 0 (replicate 16 0)
reading_begun list at = record { whole = refl; long = refl }

module _ (list places : List ℕ) (at place i : ℕ) (u : Reading list at place i places) where
  pub reading_turn : i < length places → (w p : ℕ) → w ≡ get_or list place 0 → p ≡ reach list place 1
      → Reading list at p (i + 1) (set places i w)
  unfolding run
  reading_turn h w p ew ep =
      let n : 16 - i ≡ suc (16 - (i + 1)) = let l = u.long in omega arith in
      record {
        whole = let e = u.whole in rw (add-one i, ew, ep) (rw (n, add-one i) at e);
        long = length-set places i w ∙ u.long;
      }

  pub reading_end : length places ≤ i → places ≡ run list at 16
  unfolding run
  reading_end h =
      let z : 16 - i ≡ 0 = let l = u.long in omega arith in
      rw z at u.whole

pub ruleset reading_laws = (reading_begun, reading_turn, reading_end)
