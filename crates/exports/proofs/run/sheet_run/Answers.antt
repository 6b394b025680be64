-- `exports::run::sheet_run` meets its contract: the answer of `judge::run` as a number.
use Rattle.exports.proofs.NumberLaws.{run_number_lem}
use borrow.Author.Rules.{rules}
use Rattle.exports.proofs.run.sheet_run.Goals as goal

pub returns : goal.returns
returns c = record { value = search (rules, run_number_lem); answers_after = search rules; end_locations_after = search rules; end_values_after = search rules }
