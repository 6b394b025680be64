-- `table_predicate::variable` meets its contract.
use Rattle.table_predicate.proofs.Steps.{range_at_lem, range_none}
use mir.Syntax.{w64}
use mir.ValLaws.{to_z-of_z}
use mathlib.Core.Path.{ap, ◌∙◌}
use Rattle.table_predicate.specs.Walk.{reached}
use Rattle.table_predicate.proofs.variable.Goals as goal

pub returns-then-ranges-k : goal.returns-then-ranges-k
returns-then-ranges-k c = c.reached.ensures ∙ ap (reached _) (range_none _ _ _ c.if-ranges-k.true)

pub returns : goal.returns
returns c = rw (c.reached-2.ensures, to_z-of_z w64 c.unbias-2.result (record { sfits = c.unbias-2.type_inv }), to_z-of_z w64 c.unbias.result (record { sfits = c.unbias.type_inv }), c.unbias-2.ensures, c.unbias.ensures) (ap (reached _) (range_at_lem _ _ _ c.if-ranges-k.false))
