-- `judge_rows::rows::locations_known` meets its contract: the walk over the automata.
use Rattle.std.proofs.Common.{rules}
use borrow.Author.Tests.{tests}
use Rattle.judge_rows.specs.RowTests.{known_at}
use Rattle.judge_rows.proofs.WalkLaws.{each_ran}
use Rattle.judge_rows.proofs.CodeLaws.{locations_walked}
use Rattle.judge_rows.proofs.rows.locations_known.Goals as goal

pub returns : goal.returns
returns c =
    locations_walked _ _ _ _ _ c.automata_of-n.ensures.value (each_ran (known_at c.args.sheet.now.words.now c.args.locations.now c.args.sheet.now.layout.sets) c.automata_of-n.result _ _ _ c.all.ensures.ran (cc) (λ x b q k. search (rules, tests)))
