-- What the lines that have one number, and the line of a variable's range, answer and leave.
use Rattle.std.specs.Prelude.{ℕ, true, false, List, [], ◌∷◌, Result, Ok, Err}
use Rattle.model.specs.Table.{biased}
use Rattle.table_owners.specs.Owners.{beyond_in}
use Rattle.table_append.specs.Append.{next_place, put}
use Rattle.model.specs.declared.Row.{Row}
use Rattle.model.specs.Row.{row}
use Rattle.read_numbers.specs.Range.{Ends}
use Rattle.read_form.specs.declared.LineRead.{LineRead}
use Rattle.read_form.specs.Outcome.{said}

-- the answer, and the buffer then
unfoldable pub number_read : Result ℕ Row → (at : ℕ) → Result LineRead Row
number_read (Ok n) at = Ok (said n 0 (next_place at 1))
number_read (Err r) at = Err r

unfoldable pub number_after : Result ℕ Row → (at : ℕ) → List ℕ → List ℕ
number_after (Ok n) at words = put at (n ∷ []) words
number_after (Err r) at words = words

-- row 50: by the words of the variables, no owner is beyond so many automata
unfoldable pub known_owners : (variables : List ℕ) → Result ℕ Row → Result ℕ Row
known_owners variables (Ok n) = elim (beyond_in variables n) [ true ↦ Err (row 50) | false ↦ Ok n ]
known_owners variables (Err r) = Err r

-- a variable's words: its range, and nobody as its owner
unfoldable pub bounds_read : Ends → (at : ℕ) → Result LineRead Row
bounds_read (Ok ends) at = Ok (said 0 0 (next_place at 3))
bounds_read (Err r) at = Err r

unfoldable pub bounds_after : Ends → (at : ℕ) → List ℕ → List ℕ
bounds_after (Ok ends) at words = put at (biased ends.0 ∷ biased ends.1 ∷ 0 ∷ []) words
bounds_after (Err r) at words = words
