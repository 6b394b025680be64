-- `arithmetic::lesser` meets its contract.
use Rattle.arithmetic.proofs.Order.{min_least}
use Rattle.std.proofs.Common.{arith, to_z-of_z}
use Rattle.arithmetic.proofs.lesser.Goals as goal

pub returns : goal.returns
returns c = grind (arith, to_z-of_z, min_least)
