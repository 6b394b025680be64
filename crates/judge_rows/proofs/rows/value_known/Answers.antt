-- `judge_rows::rows::value_known` meets its contract: the definition, step by step.
use Rattle.judge_rows.specs.RowTests.{range_has}
use mir.Syntax.{w64}
use mir.ValLaws.{to_z-of_z}
use Rattle.judge_rows.proofs.rows.value_known.Goals as goal

pub returns : goal.returns
unfolding range_has
returns c = rw (
  c.within.ensures,
  to_z-of_z w64 _ (record { sfits = c.unbias-low.type_inv }),
  c.unbias-low.ensures,
  c.low.ensures,
  to_z-of_z w64 _ (record { sfits = c.unbias-high.type_inv }),
  c.unbias-high.ensures,
  c.high.ensures,
  c.range_at-at.ensures,
  to_z-of_z w64 _ (record { sfits = c.value.type_inv }),
  c.value.ensures,
)
