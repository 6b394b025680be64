-- `judge_rows::rows::values_known` meets its contract: the walk over the variables.
use Rattle.std.proofs.Common.{rules}
use borrow.Author.Tests.{tests}
use Rattle.judge_rows.specs.RowTests.{range_has}
use Rattle.judge_rows.proofs.WalkLaws.{each_ran}
use Rattle.judge_rows.proofs.CodeLaws.{values_walked}
use Rattle.judge_rows.proofs.rows.values_known.Goals as goal

pub returns : goal.returns
returns c =
    values_walked _ _ _ _ (each_ran (range_has c.args.sheet.now.words.now c.args.values.now) c.args.sheet.now.layout.variables _ _ _ c.all.ensures.ran (cc) (λ x b q k. search (rules, tests)))
