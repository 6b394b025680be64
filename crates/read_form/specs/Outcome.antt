-- What the reader of one line answers and leaves, by the smallest row that the line breaks, if any.
use Rattle.std.specs.Prelude.{ℕ, List, Result, Ok, Err}
use Rattle.std.proofs.Math.Option.{Option, none, some}
use Rattle.model.specs.declared.Row.{Row}
use Rattle.model.specs.Row.{row}
use Rattle.read_form.specs.declared.LineRead.{LineRead}

-- what a sound line says
abbrev pub said : (number nodes next : ℕ) → LineRead
said number nodes next = record { number = number; nodes = nodes; next = next }

-- the row of the first, or else of the rest
unfoldable pub then_row : Option ℕ → (rest : Option ℕ) → Option ℕ
then_row none rest = rest
then_row (some n) rest = some n

unfoldable pub answered : {A : Type 0} → Option ℕ → A → Result A Row
answered none x = Ok x
answered (some n) x = Err (row n)

-- a line that breaks a row leaves the buffer as it was
unfoldable pub written : Option ℕ → (new old : List ℕ) → List ℕ
written none new old = new
written (some n) new old = old
