-- `both` meets its contract.
use borrow.Author.Rules.{rules}
use Rattle.read_numbers.proofs.RangeLaws.{both_are}
use Rattle.read_numbers.proofs.range.both.Goals as goal

pub returns : goal.returns
returns c = both_are _ _ _ c.in_ok-ok_or.ensures.value _ c.in_ok-ok_or-2.ensures.value _ (search rules)
