-- `exports::sheet_size` meets its contract: the counts as a number.
use Rattle.exports.proofs.NumberLaws.{size_number_lem}
use borrow.Author.Rules.{rules}
use Rattle.exports.proofs.sheet_size.Goals as goal

pub returns : goal.returns
returns c = search (rules, size_number_lem)
