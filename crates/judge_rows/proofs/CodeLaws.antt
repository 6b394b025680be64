-- Each way out of the code of src/.
use Rattle.std.proofs.Common.{Result, Ok, Err}
use Rattle.std.specs.Prelude.{⊤}
use Rattle.model.specs.declared.Row.{Row}
use Rattle.model.specs.Row.{row}
use mathlib.Core.Path.{◌≡◌, refl, sym, ap, ◌∙◌}
use mathlib.Core.Bool.{Bool, true, false, not, ◌&&◌, ◌||◌}
use mathlib.Core.List.{List}
use Prim.Native.Nat.{ℕ}
use lib.IntN.{ℤ, pos}
use lib.Signed.{le_z}
use lib.ListN.{length, get_or}
use lib.Dec.{eqb, ltb, leb}
use borrow.Author.Tests.{eq-eqb, ne_eqb}
use mir.Syntax.{w64}
use mir.Val.{SFits, to_z, of_z}
use mir.ValLaws.{to_z-of_z}
use Rattle.model.specs.Basic.{between}
use Rattle.model.specs.Runs.{phase_number}
use Rattle.model.proofs.Tests.{not-true, not-false}
use Rattle.table_places.specs.declared.layout.Layout.{Layout}
use Rattle.table_places.specs.Outline.{location_count}
use Rattle.table_places.specs.Layout.{automata_of}
use Rattle.judge_rows.specs.declared.Phase.{Phase}
use Rattle.judge_rows.specs.declared.Phase.TheVariants.{Start, Running}
use Rattle.judge_rows.specs.declared.State.{State}
use Rattle.judge_rows.specs.States.{filled, state_of}
use Rattle.judge_rows.specs.Each.{each_from}
use Rattle.judge_rows.specs.RowTests.{phase_read, lengths_fit, location_known, known_at, locations_known, range_has, values_known, action_known}
use Rattle.judge_rows.specs.Checks.{state_checked, values_checked, lists_checked, then_lists, then_phase, admitted_on, begun_on}
use Rattle.judge_rows.specs.Phases.{phase_is}

-- `State::of`
pub state_is : (phase : Phase) (l a : List ℕ) (v b : List ℤ) → a ≡ filled 16 0 l → b ≡ filled 48 (pos 0) v → ◌≡◌ {A = State} (record { phase = phase; locations = a; values = b }) (state_of phase l v)
unfolding state_of
state_is phase l a v b e f = rw (e, f)

-- `Phase::try_from`
pub phase_start : (p : ℕ) → p ≡ 0 → Ok Start ≡ phase_read p
unfolding phase_read
phase_start p e = rw (eq-eqb p 0 e, phase_read)

pub phase_running : (p : ℕ) → p ≡ 1 → Ok Running ≡ phase_read p
unfolding phase_read
phase_running p e = rw e

pub phase_none : (p : ℕ) → (p ≡ 0 → ⊥) → (p ≡ 1 → ⊥) → Err (row 20) ≡ phase_read p
unfolding phase_read
phase_none p a b = rw (ne_eqb p 0 a, phase_read, ne_eqb p 1 b, phase_read)

-- `lengths`
pub lengths_is : (x : Layout) (l v : ℕ) → (eqb l x.automata && eqb v x.variables) ≡ lengths_fit x l v
unfolding lengths_fit
lengths_is x l v = refl

-- `location_known`
pub location_known_is : (w locations : List ℕ) (at k j n : ℕ) → j ≡ get_or locations k 0 → n ≡ location_count w at → ltb j n ≡ location_known w locations at k
unfolding location_known
location_known_is w locations at k j n e g = rw (e, g)

-- `locations_known`
pub locations_walked : (w : List ℕ) (x : Layout) (locations : List ℕ) (n : ℕ) (r : Bool) → n ≡ automata_of x
    → r ≡ each_from (known_at w locations x.sets) 0 n → r ≡ locations_known w x locations
unfolding locations_known
locations_walked w x locations n r e f = f ∙ ap (each_from (known_at w locations x.sets) 0) e

-- `within`
pub within_is : (low high z : ℤ) → SFits w64 low → SFits w64 high → SFits w64 z
    → (le_z (to_z w64 (of_z w64 low)) (to_z w64 (of_z w64 z)) && le_z (to_z w64 (of_z w64 z)) (to_z w64 (of_z w64 high))) ≡ between low high z
unfolding between
within_is low high z a b c = rw (to_z-of_z w64 low a, to_z-of_z w64 high b, to_z-of_z w64 z c)

-- `values_known`
pub values_walked : (w : List ℕ) (x : Layout) (values : List ℤ) (r : Bool) → r ≡ each_from (range_has w values) 0 x.variables → r ≡ values_known w x values
unfolding values_known
values_walked w x values r e = e

-- `action_known`
pub action_known_is : (x : Layout) (action i : ℕ) → i ≡ action → leb i x.actions ≡ action_known x action
unfolding action_known
action_known_is x action i e = rw e

-- `state_checked`
module _ (w : List ℕ) (x : Layout) (l : List ℕ) (v : List ℤ) (a : Bool) (e : a ≡ lengths_fit x (length l) (length v)) where
  pub state_21 : not a ≡ true → Err (row 21) ≡ state_checked w x l v
  unfolding state_checked
  state_21 h =
      let y : lengths_fit x (length l) (length v) ≡ false = sym e ∙ not-true a h in
      rw (y, state_checked)

  module _ (h : not a ≡ false) (b : Bool) (f : b ≡ locations_known w x l) where
    fit : lengths_fit x (length l) (length v) ≡ true
    fit = sym e ∙ not-false a h

    pub state_22 : not b ≡ true → Err (row 22) ≡ state_checked w x l v
    unfolding state_checked
    state_22 i =
        let y : locations_known w x l ≡ false = sym f ∙ not-true b i in
        rw (fit, state_checked, y, state_checked)

    module _ (i : not b ≡ false) (c : Bool) (g : c ≡ values_known w x v) where
      known : locations_known w x l ≡ true
      known = sym f ∙ not-false b i

      pub state_23 : not c ≡ true → Err (row 23) ≡ state_checked w x l v
      unfolding state_checked
      state_23 j =
          let y : values_known w x v ≡ false = sym g ∙ not-true c j in
          rw (fit, state_checked, known, state_checked, y, state_checked)

      pub state_passes : not c ≡ false → Ok tt ≡ state_checked w x l v
      unfolding state_checked
      state_passes j =
          let y : values_known w x v ≡ true = sym g ∙ not-false c j in
          rw (fit, state_checked, known, state_checked, y, state_checked)

-- `values_checked`
module _ (w : List ℕ) (x : Layout) (v : List ℤ) where
  pub values_21 : (length v ≡ x.variables → ⊥) → Err (row 21) ≡ values_checked w x v
  unfolding values_checked
  values_21 h = rw (ne_eqb (length v) x.variables h, values_checked)

  module _ (h : length v ≡ x.variables) (c : Bool) (g : c ≡ values_known w x v) where
    pub values_23 : not c ≡ true → Err (row 23) ≡ values_checked w x v
    unfolding values_checked
    values_23 j =
        let y : values_known w x v ≡ false = sym g ∙ not-true c j in
        rw (eq-eqb (length v) x.variables h, values_checked, y, values_checked)

    pub values_pass : not c ≡ false → Ok tt ≡ values_checked w x v
    unfolding values_checked
    values_pass j =
        let y : values_known w x v ≡ true = sym g ∙ not-false c j in
        rw (eq-eqb (length v) x.variables h, values_checked, y, values_checked)

-- `lists`
module _ (w : List ℕ) (x : Layout) (l : List ℕ) (v : List ℤ) (l' : List ℕ) (v' : List ℤ) (a b : Bool) (e : a ≡ lengths_fit x (length l) (length v)) (f : b ≡ lengths_fit x (length l') (length v')) where
  pub lists_21 : (not a || not b) ≡ true → Err (row 21) ≡ lists_checked w x l v l' v'
  unfolding lists_checked
  lists_21 h = rw (rw (e, f) at h, lists_checked)

  module _ (h : (not a || not b) ≡ false) (c d : Bool) (g : c ≡ locations_known w x l) (i : d ≡ locations_known w x l') where
    pub lists_22 : (not c || not d) ≡ true → Err (row 22) ≡ lists_checked w x l v l' v'
    unfolding lists_checked
    lists_22 j = rw (rw (e, f) at h, lists_checked, rw (g, i) at j, lists_checked)

    module _ (j : (not c || not d) ≡ false) (p q : Bool) (k : p ≡ values_known w x v) (m : q ≡ values_known w x v') where
      pub lists_23 : (not p || not q) ≡ true → Err (row 23) ≡ lists_checked w x l v l' v'
      unfolding lists_checked
      lists_23 o = rw (rw (e, f) at h, lists_checked, rw (g, i) at j, lists_checked, rw (k, m) at o, lists_checked)

      pub lists_good : (not p || not q) ≡ false → Ok tt ≡ lists_checked w x l v l' v'
      unfolding lists_checked
      lists_good o = rw (rw (e, f) at h, lists_checked, rw (g, i) at j, lists_checked, rw (k, m) at o, lists_checked)

-- `admitted`
module _ (w : List ℕ) (x : Layout) (phase : ℕ) (l : List ℕ) (v : List ℤ) (l' : List ℕ) (v' : List ℤ) (y : Result Phase Row) (f : y ≡ phase_read phase) where
  pub out_of_phase : (r : Row) → y ≡ Err r → Err r ≡ admitted_on w x phase l v l' v'
  unfolding admitted_on then_phase
  out_of_phase r g = rw (sym f ∙ g)

  module _ (p : Phase) (g : y ≡ Ok p) (z : Result ⊤ Row) (i : z ≡ lists_checked w x l v l' v') where
    pub out_of_lists : (r : Row) → z ≡ Err r → Err r ≡ admitted_on w x phase l v l' v'
    unfolding admitted_on then_phase then_lists
    out_of_lists r j = rw (sym f ∙ g, sym i ∙ j)

    pub admitted_in : z ≡ Ok tt → Ok p ≡ admitted_on w x phase l v l' v'
    unfolding admitted_on then_phase then_lists
    admitted_in j = rw (sym f ∙ g, sym i ∙ j)

-- `begun`
module _ (w : List ℕ) (x : Layout) (l : List ℕ) (v : List ℤ) (phase : ℕ) (y : Result Phase Row) (f : y ≡ phase_read phase) where
  pub not_in_phase : (r : Row) → y ≡ Err r → Err r ≡ begun_on w x l v phase
  unfolding begun_on then_phase
  not_in_phase r g = rw (sym f ∙ g)

  module _ (p : Phase) (g : y ≡ Ok p) (z : Result ⊤ Row) (i : z ≡ state_checked w x l v) where
    pub not_begun : (r : Row) → z ≡ Err r → Err r ≡ begun_on w x l v phase
    unfolding begun_on then_phase then_lists
    not_begun r j = rw (sym f ∙ g, sym i ∙ j)

    pub begun_in : z ≡ Ok tt → Ok p ≡ begun_on w x l v phase
    unfolding begun_on then_phase then_lists
    begun_in j = rw (sym f ∙ g, sym i ∙ j)

-- `u32::from`
pub number_start : (p : Phase) → p ≡ Start → 0 ≡ phase_number (phase_is p)
unfolding phase_number phase_is
number_start p e = rw e

pub number_running : (p : Phase) → p ≡ Running → 1 ≡ phase_number (phase_is p)
unfolding phase_number phase_is
number_running p e = rw e

pub ruleset row_laws = (phase_start, phase_running, phase_none, number_start, number_running, lengths_is, location_known_is, within_is, action_known_is)

pub ruleset call_laws = (
  state_21,
  state_22,
  state_23,
  state_passes,
  values_21,
  values_23,
  values_pass,
  lists_21,
  lists_22,
  lists_23,
  lists_good,
  out_of_phase,
  out_of_lists,
  admitted_in,
  not_in_phase,
  not_begun,
  begun_in,
)
