-- `table_predicate::either` meets its contract.
use mir.Syntax.{w64}
use mir.ValLaws.{to_z-of_z}
use Rattle.model.specs.Predicate.{range, hull}
use Rattle.table_predicate.proofs.either.Goals as goal

pub returns : goal.returns
unfolding hull range
returns c = let tx = c.struct_told-1.given in
    let ty = c.struct_told-2-1.given in
    let xl = to_z-of_z w64 c.args.x.low (record { sfits = tx.0.1 }) in
    let xh = to_z-of_z w64 c.args.x.high (record { sfits = tx.1.0.1 }) in
    let yl = to_z-of_z w64 c.args.y.low (record { sfits = ty.0.1 }) in
    let yh = to_z-of_z w64 c.args.y.high (record { sfits = ty.1.0.1 }) in
    rw (
      c.reached.ensures,
      to_z-of_z w64 c.lesser-low.result (record { sfits = c.lesser-low.type_inv }),
      to_z-of_z w64 c.greater-high.result (record { sfits = c.greater-high.type_inv }),
      c.lesser-low.ensures,
      c.greater-high.ensures,
    )
    (simp (xl, xh, yl, yh))
