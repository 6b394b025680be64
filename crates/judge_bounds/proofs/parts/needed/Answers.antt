use Rattle.judge_bounds.proofs.PartLaws.{needing_laws, needing_more}
use borrow.Author.Rules.{rules}
use Rattle.judge_bounds.proofs.parts.needed.Goals as goal

pub returns-then-not-sound : goal.returns-then-not-sound
returns-then-not-sound c = search (rules, needing_laws)

pub loop-rest-preserved : goal.loop-rest-preserved
loop-rest-preserved c = let l = c.loop-rest in
    let most = c.in-Some.ensures in
    needing_more _ _ _ _ l.need l.rest l.invariant _ _ _ _ c.if-need-le16.true
    (c.sound.ensures c.if-not-sound.false)
    most.lower_bound most.takers_fit c.pieces-need.ensures.value c.pieces-need.ensures.upper_bound

pub returns-else-need-le16 : goal.returns-else-need-le16
returns-else-need-le16 c = search (rules, needing_laws)

pub returns-after-loop-rest : goal.returns-after-loop-rest
returns-after-loop-rest c = search (rules, needing_laws)

pub returns-in_default : goal.returns-in_default
returns-in_default c = search (rules, needing_laws)
