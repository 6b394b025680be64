-- The line of a variable's range says what the definitions say.
use Prim.Native.Nat.{ℕ}
use mathlib.Core.Path.{◌≡◌, refl, sym, ◌∙◌, ap}
use mathlib.Core.Bool.{Bool, true, false, not, ◌&&◌}
use mathlib.Core.List.{List, [], ◌∷◌}
use mathlib.Core.Option.{Option, none}
use lib.IntN.{ℤ}
use lib.Signed.{le_z}
use Rattle.model.specs.Basic.{every}
use Rattle.model.specs.Bounds.{least_number, greatest_number}
use Rattle.model.specs.Predicate.{range}
use Rattle.model.specs.Lines.{variable, Reading}
use Rattle.model.specs.Limits.{is_crossed, broken}
use Rattle.model.specs.Table.{biased}
use Rattle.format.specs.Bytes.{Bytes, parts, comma}
use Rattle.format.specs.Number.{within, integer_of}
use Rattle.format.specs.Rows.{Line, place, is, value_of, fields, field_count, field, numbers_sound, the_range, row2, row3, fault}
use Rattle.format.specs.Spelling.{spelling}
use Rattle.format.proofs.LineLaws.{formed, list_2}
use Rattle.text_numbers.specs.Number.{integer_in}
use Rattle.std.specs.Prelude as P
use Rattle.std.specs.Prelude.{Some, None, Ok, Err}
use Rattle.model.specs.Row.{row}
use Rattle.read_form.specs.Outcome.{said}
use Rattle.table_append.specs.Append.{next_place, put}
use Rattle.read_form.specs.Form.{line_of, value_after, field_in, misformed, fields_of}
use Rattle.read_numbers.specs.Range.{Ends, ordered_from, bounds_of, bounds_in}
use Rattle.read_number_line.specs.Number.{bounds_read, bounds_after}
use Rattle.read_form.specs.Outcome.{answered, written}
use Rattle.read_form.proofs.FormLaws.{row2_by}
use Rattle.read_number_line.proofs.NumberLines.{fault_variable}

-- two fields
-- the ends by rows 2, 3 and 4
unfoldable by_rows : (two three four : Bool) → ℤ → ℤ → Ends
by_rows true three four x y = Err (row 2)
by_rows false true four x y = Err (row 3)
by_rows false false true x y = Err (row 4)
by_rows false false false x y = Ok (x, y)

bounds_rows : (p q : Bytes)
    → bounds_of (integer_in p least_number greatest_number) (integer_in q least_number greatest_number)
    ≡ by_rows false (not (within least_number greatest_number p && (within least_number greatest_number q && true))) (not (le_z (integer_of p) (integer_of q))) (integer_of p) (integer_of q)
unfolding integer_in
bounds_rows p q = go (within least_number greatest_number p) (within least_number greatest_number q) (le_z (integer_of p) (integer_of q)) refl
  where
    go : (a b c : Bool) → le_z (integer_of p) (integer_of q) ≡ c
        → bounds_of (elim a as (λ x. P.Option ℤ) [ true ↦ Some (integer_of p) | false ↦ None ]) (elim b as (λ x. P.Option ℤ) [ true ↦ Some (integer_of q) | false ↦ None ])
        ≡ by_rows false (not (a && (b && true))) (not c) (integer_of p) (integer_of q)
    go false b c e = unfold bounds_of by_rows in refl
    go true false c e = unfold bounds_of by_rows in refl
    go true true true e = unfold bounds_of ordered_from by_rows in rw (e, ordered_from)
    go true true false e = unfold bounds_of ordered_from by_rows in rw (e, ordered_from)

bounds_read_lem : (two three four : Bool) (x y : ℤ) (at : ℕ) → bounds_read (by_rows two three four x y) at ≡ answered (broken 2 two (broken 3 three (broken 4 four none))) (said 0 0 (next_place at 3))
unfolding bounds_read by_rows answered broken
bounds_read_lem true three four x y at = refl
bounds_read_lem false true four x y at = refl
bounds_read_lem false false true x y at = refl
bounds_read_lem false false false x y at = refl

bounds_left : (two three four : Bool) (x y : ℤ) (at : ℕ) (words : List ℕ) → bounds_after (by_rows two three four x y) at words ≡ written (broken 2 two (broken 3 three (broken 4 four none))) (put at (biased x ∷ biased y ∷ 0 ∷ []) words) words
unfolding bounds_after by_rows written broken
bounds_left true three four x y at words = refl
bounds_left false true four x y at words = refl
bounds_left false false true x y at words = refl
bounds_left false false false x y at words = refl

module _ (r : Reading) (s : Bytes) (ended : Bool) (at : ℕ) (words : List ℕ) where
  abbrev l : Line
  l = line_of s ended

  abbrev low : ℤ
  low = integer_of (field 0 variable l)

  abbrev high : ℤ
  high = integer_of (field 1 variable l)

  two_fields : row2 variable l ≡ false → fields variable l ≡ field_in 0 (value_after (spelling variable) s) ∷ field_in 1 (value_after (spelling variable) s) ∷ []
  unfolding fields field_in value_of is place field_count
  two_fields e = list_2 (parts comma (value_after (spelling variable) s)) (formed variable l e).counts

  misformed_is : misformed (spelling variable) 2 s ended ≡ row2 variable l
  unfolding fields_of
  misformed_is = row2_by variable s ended

  ill : row2 variable l ≡ true → bounds_in (spelling variable) s ended ≡ Err (row 2)
  unfolding bounds_in
  ill e = rw (misformed_is ∙ e, bounds_in)

  well : row2 variable l ≡ false → bounds_in (spelling variable) s ended ≡ by_rows false (row3 variable l) (is_crossed (the_range l)) low high
  unfolding bounds_in row3 numbers_sound is_crossed the_range range field every
  well e = rw (misformed_is ∙ e, two_fields e, bounds_in) (bounds_rows (field_in 0 (value_after (spelling variable) s)) (field_in 1 (value_after (spelling variable) s)))

  ends : bounds_in (spelling variable) s ended ≡ by_rows (row2 variable l) (row3 variable l) (is_crossed (the_range l)) low high
  ends = go (row2 variable l) refl
    where
      go : (two : Bool) → row2 variable l ≡ two → bounds_in (spelling variable) s ended ≡ by_rows two (row3 variable l) (is_crossed (the_range l)) low high
      go true e = unfold by_rows in ill e
      go false e = well e

  pub variable_read : bounds_read (bounds_in (spelling variable) s ended) at ≡ answered (fault r variable l) (said 0 0 (next_place at 3))
  variable_read =
      ap (λ (b : Ends). bounds_read b at) ends ∙ bounds_read_lem _ _ _ low high at ∙ ap (λ (o : Option ℕ). answered o (said 0 0 (next_place at 3))) (sym (fault_variable r s ended))

  pub variable_left : bounds_after (bounds_in (spelling variable) s ended) at words ≡ written (fault r variable l) (put at (biased low ∷ biased high ∷ 0 ∷ []) words) words
  variable_left =
      ap (λ (b : Ends). bounds_after b at words) ends ∙ bounds_left _ _ _ low high at words
      ∙ ap (λ (o : Option ℕ). written o (put at (biased low ∷ biased high ∷ 0 ∷ []) words) words) (sym (fault_variable r s ended))
