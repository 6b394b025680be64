-- `judge_settled::all_hold` meets its contract: the walk over the automata.
use Rattle.std.proofs.Common.{rules}
use borrow.Author.Tests.{tests}
use Rattle.judge_settled.specs.Settled.{holds_at}
use Rattle.judge_rows.proofs.WalkLaws.{each_ran}
use Rattle.judge_settled.proofs.CodeLaws.{all_walked}
use Rattle.judge_settled.proofs.all_hold.Goals as goal

pub returns : goal.returns
returns c =
    all_walked _ _ _ _ _ _ c.automata_of-n.ensures.value (each_ran (holds_at c.args.sheet.now.words.now c.args.sheet.now.layout c.args.part c.args.s c.args.sheet.now.layout.sets) c.automata_of-n.result _ _ _ c.all.ensures.ran (cc) (λ x b q k. search (rules, tests)))
