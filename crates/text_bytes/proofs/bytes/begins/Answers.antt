use mathlib.Core.Path.{◌∙◌}
use Rattle.text_bytes.proofs.BytesLaws.{begins_is}
use Rattle.text_bytes.proofs.bytes.begins.Goals as goal

pub returns : goal.returns
returns c = c.starts_with.ensures.value ∙ begins_is _ _
