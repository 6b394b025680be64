-- `table_predicate::product` meets its contract.
use mir.Syntax.{w64}
use mir.ValLaws.{to_z-of_z}
use Rattle.model.specs.Predicate.{range, hull, times}
use Rattle.table_predicate.specs.Walk.{span}
use Rattle.table_predicate.proofs.ReachLaws.{reached_times}
use Rattle.table_predicate.proofs.product.Goals as goal

pub returns : goal.returns
unfolding times hull range
returns c = let p2 = c in
    let p1 = p2 in
    let s = p1 in
    let tx = p1.struct_told-1.given in
    let ty = p1.struct_told-2-1.given in
    let xl = to_z-of_z w64 s.args.x.low (record { sfits = tx.0.1 }) in
    let xh = to_z-of_z w64 s.args.x.high (record { sfits = tx.1.0.1 }) in
    let yl = to_z-of_z w64 s.args.y.low (record { sfits = ty.0.1 }) in
    let yh = to_z-of_z w64 s.args.y.high (record { sfits = ty.1.0.1 }) in
    rw (
      c.reached.ensures,
      to_z-of_z w64 c.lesser-low.result (record { sfits = c.lesser-low.type_inv }),
      to_z-of_z w64 c.greater-high.result (record { sfits = c.greater-high.type_inv }),
      c.lesser-low.ensures,
      c.greater-high.ensures,
      to_z-of_z w64 c.lesser.result (record { sfits = c.lesser.type_inv }),
      to_z-of_z w64 c.lesser-2.result (record { sfits = c.lesser-2.type_inv }),
      to_z-of_z w64 c.greater.result (record { sfits = c.greater.type_inv }),
      to_z-of_z w64 c.greater-2.result (record { sfits = c.greater-2.type_inv }),
      c.lesser.ensures,
      c.lesser-2.ensures,
      c.greater.ensures,
      c.greater-2.ensures,
      to_z-of_z w64 p1.product-a.result (record { sfits = p1.product-a.type_inv }),
      to_z-of_z w64 p2.product-b.result (record { sfits = p2.product-b.type_inv }),
      to_z-of_z w64 c.product-c.result (record { sfits = c.product-c.type_inv }),
      to_z-of_z w64 c.product-d.result (record { sfits = c.product-d.type_inv }),
      p1.product-a.ensures,
      p2.product-b.ensures,
      c.product-c.ensures,
      c.product-d.ensures,
    )
    (simp (xl, xh, yl, yh) (reached_times _ (span s.args.x) (span s.args.y)))
