-- `exports::sheet_step` meets its contract: the sum did not wrap.
use Rattle.exports.proofs.NumberLaws.{step_law}
use borrow.Author.Rules.{rules}
use Rattle.exports.proofs.sheet_step.Goals as goal

pub returns : goal.returns
returns c = search (rules, step_law)
