use Rattle.judge_cover.proofs.CodeLaws.{advanced_is}
use Rattle.judge_cover.proofs.GroupLaws.{gathering_laws, gathering_more}
use borrow.Author.Rules.{rules}
use Rattle.judge_cover.proofs.places.groups.Goals as goal

pub loop-k-init : goal.loop-k-init
loop-k-init c = search (rules, gathering_laws)

pub loop-k-preserved : goal.loop-k-preserved
loop-k-preserved c = let l = c.loop-k in
    gathering_more _ _ l.starts l.ends l.n l.k l.invariant c.loop-k-test.true _ _
    c.place.ensures c.place-in-loop-k.ensures _ c.in_word.ensures _ (advanced_is _ _ _ c.from-n.ensures)
