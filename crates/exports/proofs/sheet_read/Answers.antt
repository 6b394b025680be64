-- `exports::sheet_read` meets its contract: the reader's answer as a number.
use Rattle.exports.proofs.NumberLaws.{read_number_lem}
use borrow.Author.Rules.{rules}
use Rattle.exports.proofs.sheet_read.Goals as goal

pub returns : goal.returns
returns c = search (rules, read_number_lem)
