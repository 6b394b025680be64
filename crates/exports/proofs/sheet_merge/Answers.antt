-- `exports::sheet_merge` meets its contract: the merger's answer as a number.
use Rattle.exports.proofs.NumberLaws.{merge_number_lem}
use borrow.Author.Rules.{rules}
use Rattle.exports.proofs.sheet_merge.Goals as goal

pub returns : goal.returns
returns c = search (rules, merge_number_lem)
