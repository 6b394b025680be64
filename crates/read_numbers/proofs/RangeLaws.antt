-- Each way out of the code of src/range.rt.
use mathlib.Core.Path.{◌≡◌, sym, ◌∙◌}
use mathlib.Core.Bool.{Bool, true, false}
use lib.IntN.{ℤ}
use lib.Signed.{le_z}
use mir.Syntax.{w32}
use mir.Val.{SFits, to_z, of_z}
use mir.ValLaws.{to_z-of_z}
use Rattle.model.specs.Bounds.{least_number, greatest_number}
use Rattle.format.specs.Bytes.{Bytes}
use Rattle.text_numbers.specs.Number.{integer_in}
use Rattle.std.specs.Prelude.{Option, Result, Ok, Err}
use Rattle.std.specs.Option.{ok_or}
use Rattle.model.specs.declared.Row.{Row}
use Rattle.model.specs.Row.{row}
use Rattle.read_form.specs.Form.{value_after, field_in, misformed}
use Rattle.read_form.proofs.Outcomes.{lacking, present}
use Rattle.read_numbers.specs.Range.{Ends, ordered_from, bounds_of, bounds_in}

-- `ordered`
pub ordered_yes : (low high : ℤ) → le_z (to_z w32 (of_z w32 low)) (to_z w32 (of_z w32 high)) ≡ true → SFits w32 low → SFits w32 high → Ok (to_z w32 (of_z w32 low), to_z w32 (of_z w32 high)) ≡ ordered_from low high
unfolding ordered_from
ordered_yes low high h f g = rw (to_z-of_z w32 low f, to_z-of_z w32 high g, rw (to_z-of_z w32 low f, to_z-of_z w32 high g) at h, ordered_from)

pub ordered_no : (low high : ℤ) → le_z (to_z w32 (of_z w32 low)) (to_z w32 (of_z w32 high)) ≡ false → SFits w32 low → SFits w32 high → Err (row 4) ≡ ordered_from low high
unfolding ordered_from
ordered_no low high h f g = rw (rw (to_z-of_z w32 low f, to_z-of_z w32 high g) at h, ordered_from)

pub ruleset ordered_laws = (ordered_yes, ordered_no)

-- `both`
module _ (low high : Option ℤ) where
  pub both_low : (r : Row) → ◌≡◌ {A = Result ℤ Row} (Err r) (ok_or low (row 3)) → Err r ≡ bounds_of low high
  unfolding bounds_of
  both_low r e =
      let q = lacking low 3 r e in
      rw (q.0, q.1)

  module _ (z : ℤ) (e : ◌≡◌ {A = Result ℤ Row} (Ok z) (ok_or low (row 3))) where
    pub both_high : (r : Row) → ◌≡◌ {A = Result ℤ Row} (Err r) (ok_or high (row 3)) → Err r ≡ bounds_of low high
    unfolding bounds_of
    both_high r f =
        let q = lacking high 3 r f in
        rw (present low 3 z e, q.0, q.1)

    pub both_are : (y : ℤ) → ◌≡◌ {A = Result ℤ Row} (Ok y) (ok_or high (row 3)) → (r : Ends) → r ≡ ordered_from z y → r ≡ bounds_of low high
    unfolding bounds_of
    both_are y f r h = h ∙ rw (present low 3 z e, present high 3 y f)

pub ruleset both_laws = (both_low, both_high, both_are)

-- `two_numbers`
module _ (name s : Bytes) (ended : Bool) (b : Bool) (hb : b ≡ misformed name 2 s ended) where
  pub bounds_form : b ≡ true → Err (row 2) ≡ bounds_in name s ended
  unfolding bounds_in
  bounds_form h = rw (sym hb ∙ h, bounds_in)

  module _ (k : b ≡ false) (v : Bytes) (hv : v ≡ value_after name s) (p q : Bytes) (hp : p ≡ field_in 0 v) (hq : q ≡ field_in 1 v) (x y : Option ℤ)
      (hx : x ≡ integer_in p least_number greatest_number) (hy : y ≡ integer_in q least_number greatest_number) where
    pub bounds_by : (r : Ends) → r ≡ bounds_of x y → r ≡ bounds_in name s ended
    unfolding bounds_in
    bounds_by r h = h ∙ rw (sym hb ∙ k, hx, hy, hp, hq, hv, bounds_in)

pub ruleset bounds_laws = (bounds_form, bounds_by)
