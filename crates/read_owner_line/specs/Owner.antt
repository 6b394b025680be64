-- The line `owner=` as the code reads it: the rows of `owner_fault` and the word of `the_owner`, by the laws of
-- Meaning.
use Rattle.std.specs.Prelude.{ℕ, suc, Bool, true, false, pos, Result, Ok, Err}
use Rattle.model.specs.declared.Row.{Row}
use Rattle.model.specs.Row.{row}
use Rattle.model.specs.Basic.{same}
use Rattle.model.specs.Bounds.{last_automaton}
use Rattle.format.specs.Bytes.{Bytes, bytes}
use Rattle.format.specs.Number.{within, natural_of}
use Rattle.read_form.specs.Form.{value_after, misformed}

abbrev pub owner_name : Bytes
owner_name = bytes "owner="

abbrev pub nobody : Bytes
nobody = bytes "none"

-- the owner's word, or row 3
unfoldable pub owner_in : (value : Bytes) → Result ℕ Row
owner_in v =
    elim (same v nobody) [
      | true ↦ Ok 0
      | false ↦ elim (within (pos 0) (pos last_automaton) v) [ true ↦ Ok (suc (natural_of v)) | false ↦ Err (row 3) ]
    ]

unfoldable pub owner_read : Bytes → (ended : Bool) → Result ℕ Row
owner_read s ended =
    elim (misformed owner_name 1 s ended) [ true ↦ Err (row 2) | false ↦ owner_in (value_after owner_name s) ]
