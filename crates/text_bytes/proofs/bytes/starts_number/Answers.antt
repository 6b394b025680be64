-- `starts_number` meets its contract.
use Rattle.text_bytes.proofs.bytes.starts_number.Goals as goal

pub returns : goal.returns
returns c = rw c.digit.ensures
