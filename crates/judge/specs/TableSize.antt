-- The numbers of a table: A, V and N, so that a caller can make its lists of locations and values.
use Rattle.std.specs.Prelude.{Result, Ok, Err, length}
use Rattle.model.specs.Table.{Opened, unopened, opened}
use Rattle.model.specs.declared.Row.{Row}
use Rattle.model.specs.Row.{row}
use Rattle.judge.specs.declared.TableSize.{TableSize}

-- those of the model whose table it is; or row 18 or 19
unfoldable pub size_of : Opened → Result TableSize Row
size_of (unopened n) = Err (row n)
size_of (opened m) =
    Ok (record { actions = m.actions; variables = length m.variables; automata = length m.automata })
