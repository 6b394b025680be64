-- A line with one number.
use Rattle.std.specs.Prelude.{ℕ, ◌+◌, Bool, true, false, pos, ltb, Result, Ok, Err}
use Rattle.model.specs.Bounds.{max_edges}
use Rattle.format.specs.Bytes.{Bytes}
use Rattle.format.specs.Number.{within, natural_of}
use Rattle.read_form.specs.Form.{value_after, misformed}
use Rattle.model.specs.declared.Row.{Row}
use Rattle.model.specs.Row.{row}

-- rows 2 and 3 of a line with one number, from low to high
unfoldable pub count_in : (name : Bytes) (low high : ℕ) → Bytes → (ended : Bool) → Result ℕ Row
count_in name low high s ended =
    elim (misformed name 1 s ended) [
      | true ↦ Err (row 2)
      | false ↦ elim (within (pos low) (pos high) (value_after name s)) [
        | true ↦ Ok (natural_of (value_after name s))
        | false ↦ Err (row 3)
      ]
    ]

-- row 15: `before` edges, and so many more
unfoldable pub few_edges : (before : ℕ) → Result ℕ Row → Result ℕ Row
few_edges before (Ok n) = elim (ltb max_edges (before + n)) [ true ↦ Err (row 15) | false ↦ Ok n ]
few_edges before (Err r) = Err r
