-- `merge_distinct::distinct` meets its contract.
use Rattle.merge_distinct.proofs.WholeLaws.{distinct_is}
use borrow.Author.Rules.{rules}
use Rattle.merge_distinct.proofs.distinct.Goals as goal

pub returns : goal.returns
returns c = search (rules, distinct_is)
