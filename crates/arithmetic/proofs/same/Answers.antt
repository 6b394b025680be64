-- `arithmetic::same` meets its contract.
use Rattle.arithmetic.proofs.Signed.{eq_bits}
use Rattle.arithmetic.proofs.same.Goals as goal

pub returns : goal.returns
returns c = eq_bits _ _ c.ranges.a c.ranges.b
