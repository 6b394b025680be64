use Rattle.judge_bounds.proofs.PartLaws.{spreading_laws, spreading_more}
use borrow.Author.Rules.{rules}
use Rattle.judge_bounds.proofs.parts.most.Goals as goal

pub loop-k-init : goal.loop-k-init
loop-k-init c = search (rules, spreading_laws)

pub loop-k-preserved : goal.loop-k-preserved
loop-k-preserved c = let l = c.loop-k in
    spreading_more _ _ _ _ _ l.m l.k l.invariant c.loop-k-test.true _ c.in_ok-m.ensures
