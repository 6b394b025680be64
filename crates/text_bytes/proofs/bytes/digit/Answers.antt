-- `digit` meets its contract.
use mathlib.Core.Path.{refl}
use Rattle.format.specs.Number.{digit}
use Rattle.text_bytes.proofs.bytes.digit.Goals as goal

pub returns : goal.returns
unfolding digit
returns c = refl
