-- `arithmetic::unbias` meets its contract: a word less the bias is read back as the same number.
use Rattle.arithmetic.proofs.Signed.{read_argument}
use Rattle.arithmetic.proofs.unbias.Goals as goal

pub returns : goal.returns
returns c = rw (c.from.ensures, c.from-2.ensures) (read_argument c.ranges.word)
