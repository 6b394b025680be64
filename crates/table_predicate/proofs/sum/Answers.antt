-- `table_predicate::sum` meets its contract.
use lib.IntN.{◌+ℤ◌}
use mir.Syntax.{w64}
use mir.ValLaws.{to_z-of_z}
use Rattle.table_predicate.specs.Walk.{plus}
use Rattle.model.specs.Predicate.{range}
use Rattle.table_predicate.proofs.ReachLaws.{reached_cut}
use Rattle.table_predicate.proofs.sum.Goals as goal

pub returns : goal.returns
unfolding plus range
returns c = let tx = c.struct_told-1.given in
    let ty = c.struct_told-2-1.given in
    let xl = to_z-of_z w64 c.args.x.low (record { sfits = tx.0.1 }) in
    let xh = to_z-of_z w64 c.args.x.high (record { sfits = tx.1.0.1 }) in
    let yl = to_z-of_z w64 c.args.y.low (record { sfits = ty.0.1 }) in
    let yh = to_z-of_z w64 c.args.y.high (record { sfits = ty.1.0.1 }) in
    rw (c.reached.ensures, to_z-of_z w64 c.sum.result (record { sfits = c.sum.type_inv }), to_z-of_z w64 c.sum-2.result (record { sfits = c.sum-2.type_inv }), c.sum.ensures, c.sum-2.ensures)
    (simp (xl, xh, yl, yh) (reached_cut _ (c.args.x.low +ℤ c.args.y.low) (c.args.x.high +ℤ c.args.y.high)))
