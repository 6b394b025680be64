use mathlib.Core.Path.{refl}
use Rattle.format.specs.Rows.{printable}
use Rattle.text_bytes.proofs.bytes.shown.Goals as goal

pub returns : goal.returns
unfolding printable
returns c = refl
