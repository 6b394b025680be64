use Rattle.judge_cover.proofs.GroupLaws.{bounding_laws}
use borrow.Author.Rules.{rules}
use Rattle.judge_cover.proofs.bounds.find.Goals as goal

pub loop-k-init : goal.loop-k-init
loop-k-init c = search (rules, bounding_laws)

pub loop-k-preserved : goal.loop-k-preserved
loop-k-preserved c = search (rules, bounding_laws)
