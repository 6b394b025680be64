-- Each way out of the code of a run: src/runs.rt.
use Rattle.std.proofs.Common.{Result, Ok, Err}
use Rattle.model.specs.declared.Row.{Row}
use mathlib.Core.Path.{◌≡◌, refl, sym, ap, ◌∙◌}
use mathlib.Core.Bool.{Bool, true, false, not}
use mathlib.Core.List.{List, ◌∷◌}
use Prim.Native.Nat.{ℕ, zero, suc, ◌+◌, ◌-◌, ◌≤◌, ◌<◌}
use native.Mathlib.Omega.{arith}
use native.Mathlib.Numerals.{add-one}
use lib.IntN.{ℤ}
use lib.ListN.{length, get_or, take, drop, set, drop_of_length-le}
use lib.Seq.{drop-cons, take_all}
use lib.Dec.{leb}
use borrow.Author.Tests.{le-leb, lt-leb}
use Rattle.model.proofs.Tests.{not-true, not-false}
use Rattle.table_places.specs.declared.layout.Layout.{Layout}
use Rattle.table_places.specs.Layout.{layout_of, automata_of, variables_of}
use Rattle.table_places.specs.Own.{own_sets}
use Rattle.judge_rows.specs.declared.Phase.{Phase}
use Rattle.judge_rows.specs.declared.State.{State}
use Rattle.judge_runs.specs.declared.RunError.{RunError}
use Rattle.judge_runs.specs.declared.RunError.TheVariants.{Refused, Uneven, AnswersShort, EndShort}
use Rattle.judge_turn.specs.declared.Turn.{Turn}
use Rattle.judge_rows.specs.States.{state_of}
use Rattle.judge_call.specs.Calls.{own_of}
use Rattle.judge_lists.specs.Lists.{lists_fit, end_fits, in_front, placed}
use Rattle.judge_lists.proofs.ListLaws.{room_for_locations, room_for_values}
use Rattle.judge_rows.specs.Checks.{begun_on}
use Rattle.judge_turn.specs.Turns.{turn_on}
use Rattle.judge_runs.specs.RunWords.{Gone, go_on, Left, ran_on, listed_on, over_on, Leaves}

-- a part that is cut off, and what follows it
module _ {A : Type 0} (l : List A) (n m : ℕ) (few : m ≤ n) (whole : m < n → m ≡ length l) where
  cut_take : take m l ≡ take n l
  cut_take = go (n - m) refl
    where
      go : (d : ℕ) → n - m ≡ d → take m l ≡ take n l
      go zero e = let z : m ≡ n = omega arith in ap (λ (i : ℕ). take i l) z
      go (suc d) e = let z : m ≡ length l = whole (omega arith) in take_all m l (omega arith) ∙ sym (take_all n l (omega arith))

  cut_drop : drop m l ≡ drop n l
  cut_drop = go (n - m) refl
    where
      go : (d : ℕ) → n - m ≡ d → drop m l ≡ drop n l
      go zero e = let z : m ≡ n = omega arith in ap (λ (i : ℕ). drop i l) z
      go (suc d) e =
          let z : m ≡ length l = whole (omega arith) in
          drop_of_length-le l (omega arith) ∙ sym (drop_of_length-le l (omega arith))

-- `all`: k proposals are judged, and the run goes on to the same end
module _ (w : List ℕ) (x : Layout) (own : List ℕ) (n v : ℕ) (actions : List ℕ) (whole : Gone) where
  pub record Going (answers : List ℕ) (s : State) (ls : List ℕ) (vs : List ℤ) (k : ℕ) : Type 0 where
    pub goes : go_on w x own n v s answers k (drop k actions) ls vs ≡ whole

  module _ (answers : List ℕ) (s : State) (ls : List ℕ) (vs : List ℤ) (k : ℕ) (g : Going answers s ls vs k) where
    pub going_on : k < length actions → (m i : ℕ) → m ≤ n → (m < n → m ≡ length ls) → i ≤ v → (i < v → i ≡ length vs)
        → (r : Turn) (l l' : List ℕ) (u u' : List ℤ) → l ≡ take m ls → l' ≡ drop m ls → u ≡ take i vs → u' ≡ drop i vs
        → r ≡ turn_on w x own s (get_or actions k 0) l u → Going (set answers k r.number) r.state l' u' (k + 1)
    unfolding go_on
    going_on h m i few-m whole-m few-i whole-i r l l' u u' a b c d e =
        let step : go_on w x own n v s answers k (get_or actions k 0 ∷ drop (suc k) actions) ls vs ≡ whole = rw (← drop-cons actions k 0 h) g.goes in
        let cut : r ≡ turn_on w x own s (get_or actions k 0) (take n ls) (take v vs) =
        rw (← cut_take ls n m few-m whole-m, ← cut_take vs v i few-i whole-i, ← a, ← c) e in
        record { goes = rw (add-one k, cut, b ∙ cut_drop ls n m few-m whole-m, d ∙ cut_drop vs v i few-i whole-i) step }

    pub going_ends : length actions ≤ k → record { state = s; answers = answers } ≡ whole
    unfolding go_on
    going_ends h = rw (drop_of_length-le actions h) at g.goes

pub going_first : (w : List ℕ) (x : Layout) (own : List ℕ) (n v : ℕ) (actions : List ℕ) (answers : List ℕ) (s : State) (ls : List ℕ) (vs : List ℤ)
    → Going w x own n v actions (go_on w x own n v s answers 0 actions ls vs) answers s ls vs 0
going_first w x own n v actions answers s ls vs = record { goes = refl }

pub all_state : (w : List ℕ) (x : Layout) (own : List ℕ) (n v : ℕ) (actions ls : List ℕ) (vs : List ℤ) (old : List ℕ) (first : State) (answers : List ℕ) (s : State) (ls' : List ℕ) (vs' : List ℤ) (k : ℕ)
    → Going w x own n v actions (go_on w x own n v first old 0 actions ls vs) answers s ls' vs' k → length actions ≤ k → n ≡ automata_of x → v ≡ variables_of x
    → s ≡ (go_on w x own (automata_of x) (variables_of x) first old 0 actions ls vs).state
all_state w x own n v actions ls vs old first answers s ls' vs' k g h e f =
    rw (← e, ← f) (ap (λ (g : Gone). g.state) (going_ends w x own n v actions _ answers s ls' vs' k g h))

pub all_answers : (w : List ℕ) (x : Layout) (own : List ℕ) (n v : ℕ) (actions ls : List ℕ) (vs : List ℤ) (old : List ℕ) (first : State) (answers : List ℕ) (s : State) (ls' : List ℕ) (vs' : List ℤ) (k : ℕ)
    → Going w x own n v actions (go_on w x own n v first old 0 actions ls vs) answers s ls' vs' k → length actions ≤ k → n ≡ automata_of x → v ≡ variables_of x
    → answers ≡ (go_on w x own (automata_of x) (variables_of x) first old 0 actions ls vs).answers
all_answers w x own n v actions ls vs old first answers s ls' vs' k g h e f =
    rw (← e, ← f) (ap (λ (g : Gone). g.answers) (going_ends w x own n v actions _ answers s ls' vs' k g h))

-- `ended`
pub ended_is : (w : List ℕ) (x : Layout) (own : List ℕ) (s : State) (actions ls : List ℕ) (vs : List ℤ) (answers locations : List ℕ) (values : List ℤ) (end : State) (new l : List ℕ)
    (v : List ℤ) (p : Phase) → end ≡ (go_on w x own (automata_of x) (variables_of x) s answers 0 actions ls vs).state
    → new ≡ (go_on w x own (automata_of x) (variables_of x) s answers 0 actions ls vs).answers → p ≡ end.phase
    → end_fits x (length locations) (length values) ≡ true
    → l ≡ placed (take (automata_of x) end.locations) locations → v ≡ placed (take (variables_of x) end.values) values
    → Leaves (ran_on w x own s actions ls vs answers locations values) (Ok p) new l v
unfolding ran_on
ended_is w x own s actions ls vs answers locations values end new l v p e f g room h i =
    let at_end : l ≡ in_front (take (automata_of x) end.locations) locations = h ∙ room_for_locations x (length locations) (length values) room end.locations locations refl in
    let values_end : v ≡ in_front (take (variables_of x) end.values) values = i ∙ room_for_values x (length locations) (length values) room end.values values refl in
    record { is = rw (g, at_end, values_end, e, f) }

-- `listed`
pub end_has_room : (x : Layout) (l v : ℕ) (b : Bool) → b ≡ end_fits x l v → not b ≡ false → end_fits x l v ≡ true
end_has_room x l v b f g = sym f ∙ not-false b g

module _ (w : List ℕ) (x : Layout) (own : List ℕ) (s : State) (actions ls : List ℕ) (vs : List ℤ) (answers locations : List ℕ) (values : List ℤ) where
  abbrev left : Left
  left = listed_on w x own s actions ls vs answers locations values

  module _ (a : Bool) (e : a ≡ lists_fit x (length actions) (length ls) (length vs)) where
    pub listed_uneven : not a ≡ true → Leaves left (Err Uneven) answers locations values
    unfolding listed_on
    listed_uneven h =
        let y : lists_fit x (length actions) (length ls) (length vs) ≡ false = sym e ∙ not-true a h in
        record { is = rw (y, listed_on) }

    module _ (h : not a ≡ false) where
      even : lists_fit x (length actions) (length ls) (length vs) ≡ true
      even = sym e ∙ not-false a h

      pub listed_short : length answers < length actions → Leaves left (Err AnswersShort) answers locations values
      unfolding listed_on
      listed_short i = record { is = rw (even, listed_on, lt-leb (length actions) (length answers) i, listed_on) }

      module _ (i : length actions ≤ length answers) (b : Bool) (f : b ≡ end_fits x (length locations) (length values)) where
        room : leb (length actions) (length answers) ≡ true
        room = le-leb (length actions) (length answers) i

        pub listed_no_end : not b ≡ true → Leaves left (Err EndShort) answers locations values
        unfolding listed_on
        listed_no_end g =
            let y : end_fits x (length locations) (length values) ≡ false = sym f ∙ not-true b g in
            record { is = rw (even, listed_on, room, listed_on, y, listed_on) }

        pub listed_ran : not b ≡ false → (r : Result Phase RunError) (new l : List ℕ) (v : List ℤ) → Leaves (ran_on w x own s actions ls vs answers locations values) r new l v
            → Leaves left r new l v
        unfolding listed_on
        listed_ran g r new l v d =
            record { is = rw (even, listed_on, room, listed_on, end_has_room x (length locations) (length values) b f g, listed_on) d.is }

-- `over`
module _ (w : List ℕ) (phase : ℕ) (l : List ℕ) (v : List ℤ) (actions ls : List ℕ) (vs : List ℤ) (answers locations : List ℕ) (values : List ℤ)
    (u : List ℕ) (same : u ≡ w) (x : Layout) (found : x ≡ layout_of w) (y : Result Phase Row) (i : y ≡ begun_on u x l v phase) where
  begun_is : (z : Result Phase Row) → y ≡ z → begun_on w (layout_of w) l v phase ≡ z
  begun_is z e =
      let j : y ≡ begun_on w (layout_of w) l v phase = rw (same, found) at i in
      sym j ∙ e

  pub over_out : (row : Row) → y ≡ Err row → Leaves (over_on w phase l v actions ls vs answers locations values) (Err (Refused row)) answers locations values
  unfolding over_on
  over_out row e = record { is = rw (begun_is (Err row) e, over_on) }

  pub over_in : (q : Phase) → y ≡ Ok q → (own : List ℕ) → own ≡ own_sets w x.sets → (s : State) → s ≡ state_of q l v → (r : Result Phase RunError) (new newl : List ℕ) (newv : List ℤ)
      → Leaves (listed_on u x own s actions ls vs answers locations values) r new newl newv
      → Leaves (over_on w phase l v actions ls vs answers locations values) r new newl newv
  unfolding over_on
  over_in q e own sets s o r new newl newv d =
      let all : own ≡ own_of w = sets ∙ ap (λ (k : Layout). own_sets w k.sets) found in
      record { is = rw (begun_is (Ok q) e, over_on) (rw (o, all, same, found) at d.is) }

pub ruleset run_laws = (going_first, all_state, all_answers, end_has_room, listed_uneven, listed_short, listed_no_end)
