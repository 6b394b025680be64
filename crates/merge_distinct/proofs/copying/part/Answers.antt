-- `merge_distinct::copying::part` meets its contract.
use Rattle.merge_distinct.proofs.CopyingLaws.{part_is}
use borrow.Author.Rules.{rules}
use Rattle.merge_distinct.proofs.copying.part.Goals as goal

pub returns : goal.returns
returns c = search (rules, part_is)
