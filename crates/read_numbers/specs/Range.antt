-- The line of a variable's range: two numbers parted by a comma, in order.
use Rattle.std.specs.Prelude.{Bool, true, false, ℤ, Option, Some, None, Result, Ok, Err}
use Rattle.std.specs.Int.Signed.{le_z}
use Rattle.model.specs.Bounds.{least_number, greatest_number}
use Rattle.format.specs.Bytes.{Bytes}
use Rattle.text_numbers.specs.Number.{integer_in}
use Rattle.read_form.specs.Form.{value_after, field_in, misformed}
use Rattle.model.specs.declared.Row.{Row}
use Rattle.model.specs.Row.{row}

-- the ends of a range, or the row that refuses
abbrev pub Ends : Type 0
Ends = Result (ℤ × ℤ) Row

unfoldable pub ordered_from : ℤ → ℤ → Ends
ordered_from low high = elim (le_z low high) [ true ↦ Ok (low, high) | false ↦ Err (row 4) ]

unfoldable pub bounds_of : Option ℤ → Option ℤ → Ends
bounds_of None high = Err (row 3)
bounds_of (Some low) None = Err (row 3)
bounds_of (Some low) (Some high) = ordered_from low high

unfoldable pub bounds_in : (name : Bytes) → Bytes → (ended : Bool) → Ends
bounds_in name s ended =
    elim (misformed name 2 s ended) [
      | true ↦ Err (row 2)
      | false ↦
          bounds_of (integer_in (field_in 0 (value_after name s)) least_number greatest_number)
          (integer_in (field_in 1 (value_after name s)) least_number greatest_number)
    ]
