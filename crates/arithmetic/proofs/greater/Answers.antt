-- `arithmetic::greater` meets its contract.
use Rattle.arithmetic.proofs.Order.{max_greatest}
use Rattle.std.proofs.Common.{arith, to_z-of_z}
use Rattle.arithmetic.proofs.greater.Goals as goal

pub returns : goal.returns
returns c = grind (arith, to_z-of_z, max_greatest)
