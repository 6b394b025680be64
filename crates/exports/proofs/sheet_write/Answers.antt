-- `exports::sheet_write` meets its contract: the writer's answer as a number.
use Rattle.exports.proofs.NumberLaws.{write_laws}
use borrow.Author.Rules.{rules}
use Rattle.exports.proofs.sheet_write.Goals as goal

pub returns : goal.returns
returns c = search (rules, write_laws)
