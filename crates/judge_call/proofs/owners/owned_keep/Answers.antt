-- `judge_call::owners::owned_keep` meets its contract: the walk over the variables.
use Rattle.std.proofs.Common.{rules}
use borrow.Author.Tests.{tests}
use Rattle.judge_call.specs.Owners.{keeps_at}
use Rattle.judge_rows.proofs.WalkLaws.{each_ran}
use Rattle.judge_call.proofs.OwnerLaws.{owned_walked}
use Rattle.judge_call.proofs.owners.owned_keep.Goals as goal

pub returns : goal.returns
returns c =
    owned_walked _ _ _ _ _ _ c.variables_of-v.ensures.value (each_ran (keeps_at c.args.sheet.now.words.now c.args.s.values c.args.t.values) c.variables_of-v.result _ _ _ c.all.ensures.ran (cc) (λ x b q k. search (rules, tests)))
