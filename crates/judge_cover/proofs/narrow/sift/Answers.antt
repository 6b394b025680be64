use Rattle.judge_cover.proofs.GroupLaws.{passing_laws}
use borrow.Author.Rules.{rules}
use Rattle.judge_cover.proofs.narrow.sift.Goals as goal

pub loop-i-preserved : goal.loop-i-preserved
loop-i-preserved c = search (rules, passing_laws)
