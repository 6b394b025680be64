use mathlib.Core.Path.{◌∙◌}
use Rattle.text_bytes.proofs.BytesLaws.{same_is}
use Rattle.text_bytes.proofs.bytes.same.Goals as goal

pub returns : goal.returns
returns c = c.eq.ensures ∙ same_is _ _
