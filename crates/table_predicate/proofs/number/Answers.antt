-- `table_predicate::number` meets its contract.
use mir.Syntax.{w64}
use mir.ValLaws.{to_z-of_z}
use Rattle.table_predicate.proofs.number.Goals as goal

pub returns : goal.returns
returns c = rw (c.reached.ensures, to_z-of_z w64 _ (record { sfits = c.unbias-z.type_inv }), c.unbias-z.ensures)
