-- `arithmetic::product` meets its contract.
use Rattle.arithmetic.proofs.CutLaws.{saturated}
use Rattle.std.proofs.Common.{arith, to_z-of_z}
use Rattle.arithmetic.proofs.product.Goals as goal

pub returns : goal.returns
returns c = grind (arith, to_z-of_z, saturated)
