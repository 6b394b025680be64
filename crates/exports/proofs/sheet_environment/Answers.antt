-- `exports::sheet_environment` meets its contract: the sum did not wrap.
use Rattle.exports.proofs.NumberLaws.{environment_law}
use borrow.Author.Rules.{rules}
use Rattle.exports.proofs.sheet_environment.Goals as goal

pub returns : goal.returns
returns c = search (rules, environment_law)
