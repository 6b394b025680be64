-- `one_number` meets its contract.
use Rattle.read_numbers.proofs.NumberLaws.{number_is}
use Rattle.read_numbers.proofs.number.one_number.Goals as goal

pub returns : goal.returns
returns c =
    number_is _ _ _ _ _ _ c.misformed.ensures c.if-misformed.false _ c.value.ensures _ c.natural.ensures _ c.in_ok-n.ensures.value c.if-n-low.false
