-- A state of the definitions, and the code's arrays that show it.
use Rattle.std.proofs.Common.{Result, Ok, Err}
use Rattle.model.specs.declared.Row.{Row}
use Rattle.model.specs.Row.{row}
use mathlib.Core.Path.{◌≡◌, refl}
use mathlib.Core.Bool.{Bool, true, false, ◌||◌}
use mathlib.Core.List.{List}
use mathlib.Core.Option.{Option, none, some}
use Prim.Native.Nat.{ℕ, ◌<◌}
use native.Mathlib.Omega.{arith}
use lib.IntN.{ℤ, pos}
use lib.ListN.{length, get_or, take}
use lib.Dec.{eqb}
use Rattle.model.specs.Model.{Model, automaton}
use Rattle.model.specs.Lawful.{Lawful}
use Rattle.model.specs.Rules as R
use Rattle.model.specs.Judge as J
use Rattle.model.proofs.Tests.{and_left, and_right, lt_of, not-false, eq_of, each_elim, or_none_left, or_none_right}
use Rattle.arithmetic.specs.Values.{Inside}
use Rattle.table_places.specs.Layout.{layout_of, automata_of}
use Rattle.table_places.proofs.LayoutLaws.{all_automata}
use Rattle.table_places.proofs.Opened.{Sheet}
use Rattle.judge_rows.specs.declared.Phase.{Phase}
use Rattle.judge_rows.specs.declared.Phase.TheVariants.{Start, Running}
use Rattle.judge_rows.specs.declared.State.{State}
use Rattle.judge_rows.specs.Phases.{phase_is}
use Rattle.judge_rows.specs.States.{state_of, filled}
use Rattle.judge_rows.specs.RowTests.{phase_read}
use Rattle.judge_rows.proofs.Filled.{filled_front, filled_at}

-- a state by its lists, as the definitions have it
abbrev pub stands : Phase → List ℕ → List ℤ → R.State
stands phase locations values = record { phase = phase_is phase; locations = locations; values = values }

-- the code's state is that of the definitions, and no row refuses it
pub record Shows (m : Model) (s : State) (u : R.State) : Type 0 where
  pub phase : phase_is s.phase ≡ u.phase
  pub values : take (length m.variables) s.values ≡ u.values
  pub locations : (k : ℕ) → k < length m.automata → get_or s.locations k 0 ≡ R.at u k
  pub known : (k : ℕ) → k < length m.automata → R.at u k < length (automaton m k).locations
  pub inside : Inside m.variables u.values

-- row 21 refuses no state: it has a location for each automaton, and a value for each variable
module _ (m : Model) (u : R.State) (h : J.row21 m u ≡ false) where
  pub one_each : length u.locations ≡ length m.automata
  unfolding J.row21
  one_each = eq_of (length u.locations) (length m.automata) (and_left (eqb (length u.locations) (length m.automata)) (J.has_values m u.values) (not-false _ h))

  pub one_value : length u.values ≡ length m.variables
  unfolding J.row21 J.has_values
  one_value = eq_of (length u.values) (length m.variables) (and_right (eqb (length u.locations) (length m.automata)) _ (not-false _ h))

-- no row refuses a state, so the code's arrays show it
pub shows : (m : Model) → Lawful m → (phase : Phase) (l : List ℕ) (v : List ℤ) → let u = stands phase l v in
    J.row21 m u ≡ false → J.row22 m u ≡ false → J.row23 m u ≡ false → Shows m (state_of phase l v) u
unfolding J.row21 J.has_values J.row22 J.row23 J.range_of state_of
shows m lawful phase l v a b c =
    let size : length v ≡ length m.variables = one_value m (stands phase l v) a in
    record {
      phase = refl;
      values = rw (← size) (filled_front 48 (pos 0) v (rw size lawful.few_variables));
      locations = λ k h. filled_at 16 0 l k (omega (arith, lawful.few_automata));
      known = λ k h. lt_of (get_or l k 0) (length (automaton m k).locations) (each_elim (length m.automata) _ (not-false _ b) k h);
      inside = λ k h. each_elim (length m.variables) _ (not-false _ c) k h;
    }

-- row 20: the code reads a phase exactly where the definitions have one
pub phase_read_lem : (p : ℕ) (P : Result Phase Row → Option R.Phase → Type 0) → ((q : Phase) → P (Ok q) (some (phase_is q))) → P (Err (row 20)) none → P (phase_read p) (J.phase_of p)
unfolding phase_read J.phase_of phase_is
phase_read_lem p P some-phase no_phase = go (eqb p 0) refl (eqb p 1) refl
  where
    go : (a : Bool) → eqb p 0 ≡ a → (b : Bool) → eqb p 1 ≡ b → P (phase_read p) (J.phase_of p)
    go true e b f = rw (e, phase_read, J.phase_of) (some-phase Start)
    go false e true f = rw (e, phase_read, J.phase_of, f, phase_read, J.phase_of) (some-phase Running)
    go false e false f = rw (e, phase_read, J.phase_of, f, phase_read, J.phase_of) no_phase

-- no row up to 23 refuses the states
pub record Pass (m : Model) (u u' : R.State) : Type 0 where
  pub no_21 : (J.row21 m u || J.row21 m u') ≡ false
  pub no_22 : (J.row22 m u || J.row22 m u') ≡ false
  pub no_23 : (J.row23 m u || J.row23 m u') ≡ false

-- both states of a call that passes are shown by the code's arrays
module _ (m : Model) (lawful : Lawful m) (q q' : Phase) (l : List ℕ) (v : List ℤ) (l' : List ℕ) (v' : List ℤ) (p : Pass m (stands q l v) (stands q' l' v')) where
  pub shows_old : Shows m (state_of q l v) (stands q l v)
  shows_old =
      let u = stands q l v in
      let u' = stands q' l' v' in
      shows m lawful q l v (or_none_left (J.row21 m u) (J.row21 m u') p.no_21) (or_none_left (J.row22 m u) (J.row22 m u') p.no_22) (or_none_left (J.row23 m u) (J.row23 m u') p.no_23)

  pub shows_new : Shows m (state_of q' l' v') (stands q' l' v')
  shows_new =
      let u = stands q l v in
      let u' = stands q' l' v' in
      shows m lawful q' l' v' (or_none_right (J.row21 m u) (J.row21 m u') p.no_21) (or_none_right (J.row22 m u) (J.row22 m u') p.no_22) (or_none_right (J.row23 m u) (J.row23 m u') p.no_23)

module _ (t : List ℕ) (m : Model) (sheet : Sheet t m) where
  -- the lists of a state stand at the front of the code's arrays
  pub in_front_lem : (k : List ℕ) → length k ≡ length m.automata → take (automata_of (layout_of t)) (filled 16 0 k) ≡ k
  in_front_lem k e = rw (all_automata m sheet.lawful t sheet.rest sheet.stands, ← e) (filled_front 16 0 k (rw e sheet.lawful.few_automata))
