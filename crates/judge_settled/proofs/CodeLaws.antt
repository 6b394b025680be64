-- Each way out of the code of src/.
use mathlib.Core.Path.{◌≡◌, refl, sym, ap, ◌∙◌}
use mathlib.Core.Bool.{Bool, true, false, not, ◌&&◌}
use mathlib.Core.List.{List}
use Prim.Native.Nat.{ℕ, suc, ◌+◌, ◌-◌, ◌≤◌, ◌<◌}
use native.Mathlib.Omega.{arith}
use native.Mathlib.Nat.{sub-zero}
use lib.IntN.{ℤ}
use lib.ListN.{get_or, take}
use Rattle.model.proofs.Tests.{not-true, not-false}
use Rattle.evaluator.specs.Evaluate.{evaluate}
use Rattle.table_places.specs.declared.layout.Layout.{Layout}
use Rattle.table_places.specs.Outline.{nodes_place, first_location, location_at, after_predicate}
use Rattle.table_places.specs.Layout.{automata_of, variables_of}
use Rattle.table_places.specs.Starts.{starts_at, start_count, first_start}
use Rattle.judge_rows.specs.declared.Phase.{Phase}
use Rattle.judge_rows.specs.declared.Phase.TheVariants.{Start, Running}
use Rattle.judge_rows.specs.declared.State.{State}
use Rattle.judge_settled.specs.declared.Part.{Part}
use Rattle.judge_settled.specs.declared.Part.TheVariants.{Init, Inv}
use Rattle.judge_rows.specs.Each.{each_from}
use Rattle.judge_settled.specs.Settled.{part_at, part_holds, location_holds, holds_at, all_hold, hold_from, starts_hold_at, started_in, settled_at}

-- `part_at`
module _ (w : List ℕ) (part : Part) (at j a init : ℕ) (e : a ≡ first_location w at) (f : init ≡ location_at w a j) where
  pub part_init : part ≡ Init → init ≡ part_at w part at j
  unfolding part_at
  part_init g = rw (g, f, e)

  pub part_inv : part ≡ Inv → (r : ℕ) → r ≡ after_predicate w init → r ≡ part_at w part at j
  unfolding part_at
  part_inv g r h = rw (g, h, f, e)

-- `part_holds`
pub part_holds_is : (w : List ℕ) (x : Layout) (values : List ℤ) (at n p : ℕ) (r : Bool) → n ≡ variables_of x → p ≡ nodes_place w at → r ≡ evaluate w (take n values) (take n values) p → r ≡ part_holds w x values at
unfolding part_holds
part_holds_is w x values at n p r e f g = rw (g, e, f)

-- `location_holds`
pub location_holds_is : (w : List ℕ) (x : Layout) (part : Part) (s : State) (at k j p : ℕ) (r : Bool) → j ≡ get_or s.locations k 0 → p ≡ part_at w part at j → r ≡ part_holds w x s.values p → r ≡ location_holds w x part s at k
unfolding location_holds
location_holds_is w x part s at k j p r e f g = rw (g, f, e)

-- `all_hold`
pub all_walked : (w : List ℕ) (x : Layout) (part : Part) (s : State) (n : ℕ) (r : Bool) → n ≡ automata_of x
    → r ≡ each_from (holds_at w x part s x.sets) 0 n → r ≡ all_hold w x part s
unfolding all_hold
all_walked w x part s n r e f = f ∙ ap (each_from (holds_at w x part s x.sets) 0) e

-- `starts_hold`
pub starts_walked : (w : List ℕ) (x : Layout) (s : State) (place n at : ℕ) → place ≡ starts_at w x.tree → n ≡ start_count w place
    → at ≡ first_start w place → hold_from w x s.values at (n - 0) ≡ starts_hold_at w x s
unfolding starts_hold_at
starts_walked w x s place n at e f g = rw (sub-zero n, g, f, e)

module _ (w : List ℕ) (x : Layout) (values : List ℤ) where
  pub hold_cons : (at left : ℕ) → hold_from w x values at (suc left) ≡ (part_holds w x values at && hold_from w x values (after_predicate w at) left)
  hold_cons at left = go (part_holds w x values at) refl
    where
      go : (b : Bool) → part_holds w x values at ≡ b → hold_from w x values at (suc left) ≡ (b && hold_from w x values (after_predicate w at) left)
      go true e = unfold hold_from in rw (e, hold_from)
      go false e = unfold hold_from in rw (e, hold_from)

  -- predicate i of n is next, and the walk goes on to the same end
  module _ (at n i : ℕ) (whole : Bool) (goes : hold_from w x values at (n - i) ≡ whole) where
    pub hold_done : n ≤ i → true ≡ whole
    unfolding hold_from
    hold_done h =
        let z : n - i ≡ 0 = omega arith in
        rw z at goes

    module _ (h : i < n) (r : Bool) (e : r ≡ part_holds w x values at) where
      taken : (r && hold_from w x values (after_predicate w at) (n - (i + 1))) ≡ whole
      taken =
          let z : n - i ≡ suc (n - (i + 1)) = omega arith in
          rw (e, ← hold_cons at (n - (i + 1)), ← z) goes

      pub hold_fails : not r ≡ true → false ≡ whole
      hold_fails f = rw (not-true r f) at taken

      pub hold_again : not r ≡ false → (b : ℕ) → b ≡ after_predicate w at → hold_from w x values b (n - (i + 1)) ≡ whole
      hold_again f b g = rw g (rw (not-false r f) at taken)

-- `started`
module _ (w : List ℕ) (x : Layout) (s : State) (phase : Phase) where
  pub started_start : phase ≡ Start → (a b : Bool) → a ≡ all_hold w x Init s → b ≡ starts_hold_at w x s → (a && b) ≡ started_in w x s phase
  unfolding started_in
  started_start e a b f g = rw (e, f, g)

  pub started_running : phase ≡ Running → true ≡ started_in w x s phase
  unfolding started_in
  started_running e = rw e

-- `settled`
module _ (w : List ℕ) (x : Layout) (s t : State) (a : Bool) (e : a ≡ started_in w x s s.phase) where
  pub settled_start : not a ≡ true → false ≡ settled_at w x s t
  unfolding settled_at
  settled_start h =
      let f : started_in w x s s.phase ≡ false = sym e ∙ not-true a h in
      rw (f, settled_at)

  module _ (h : not a ≡ false) (b : Bool) (g : b ≡ all_hold w x Inv s) where
    pub settled_before : not b ≡ true → false ≡ settled_at w x s t
    unfolding settled_at
    settled_before i =
        let f : started_in w x s s.phase ≡ true = sym e ∙ not-false a h in
        let j : all_hold w x Inv s ≡ false = sym g ∙ not-true b i in
        rw (f, settled_at, j, settled_at)

    pub settled_after : not b ≡ false → (r : Bool) → r ≡ all_hold w x Inv t → r ≡ settled_at w x s t
    unfolding settled_at
    settled_after i r k =
        let f : started_in w x s s.phase ≡ true = sym e ∙ not-false a h in
        let j : all_hold w x Inv s ≡ true = sym g ∙ not-false b i in
        rw (f, settled_at, j, settled_at) k

pub ruleset code_laws = (part_holds_is, location_holds_is, part_init, part_inv, starts_walked, hold_done, hold_fails, hold_again, started_start, started_running, settled_start, settled_before, settled_after)
