-- What the program prints, as the code gives it: bytes of which the first are the text.
use Rattle.std.specs.Prelude.{ℕ, ◌≡◌, Option, Some, length, replicate}
use Rattle.model.specs.Bounds.{max_bytes}
use Rattle.format.specs.Bytes.{Bytes}
use Rattle.format.specs.Writer.{with_text}
use Rattle.merge_output.specs.declared.Printed.{Printed}

-- a text, and zeros after it
unfoldable pub printed : Bytes → Printed
printed t = record { bytes = with_text t (replicate max_bytes 0); length = length t }

-- t was put into the first bytes, up to where the answer says, and the rest is as it was
pub record Stands (t old new : Bytes) (r : Option ℕ) : Type 0 where
  pub end : r ≡ Some (length t)
  pub memory : new ≡ with_text t old
  pub long : length new ≡ length old
