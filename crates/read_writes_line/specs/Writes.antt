-- The line `writes=LIST` as the code reads it. Where `rest` has the variables that the edge does not mention, it breaks
-- the rows of `writes_fault` but row 51, which asks who owns the variables: the law writes_rows.
use Rattle.std.specs.Prelude.{ℕ, Bool, not, eqb, Some, None, Result}
use Rattle.std.specs.Prelude as Std
use Rattle.std.proofs.Math.Option.{Option, none, some}
use Rattle.model.specs.declared.Row.{Row}
use Rattle.model.specs.Bounds.{last_variable}
use Rattle.model.specs.Limits.{broken}
use Rattle.format.specs.Bytes.{Bytes, bytes}
use Rattle.format.specs.Rows.{list_items}
use Rattle.read_form.specs.Form.{value_after, misformed}
use Rattle.read_form.specs.Outcome.{answered}
use Rattle.table_writes.specs.Sets.{all_variables}
use Rattle.read_list.specs.declared.Asked.{Asked}
use Rattle.read_list.specs.declared.Listed.{Listed}
use Rattle.read_list.specs.Items.{items_of}

abbrev pub writes_name : Bytes
writes_name = bytes "writes="

-- what is asked of a list of variables, where the model has so many
unfoldable pub asked_of : (variables : ℕ) → Asked
asked_of variables = record { most = last_variable; least = 0; below = variables; all = all_variables }

unfoldable pub list_row : Std.Option Listed → (rest : ℕ) → Option ℕ
list_row None rest = some 3
list_row (Some l) rest =
    broken 5 (not l.rising)
    (broken 7 l.outside
    (broken 44 (not (eqb l.rest rest))
    none))

unfoldable pub writes_row : Bytes → (ended : Bool) → (variables rest : ℕ) → Option ℕ
writes_row s ended variables rest =
    broken 2 (misformed writes_name 0 s ended)
    (list_row (items_of (asked_of variables) (list_items (value_after writes_name s))) rest)

-- the answer
unfoldable pub told : Option ℕ → Result (Unit {0}) Row
told o = answered o tt
