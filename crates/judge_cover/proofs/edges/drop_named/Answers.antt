use Rattle.judge_cover.proofs.GroupLaws.{dropping_laws}
use borrow.Author.Rules.{rules}
use Rattle.judge_cover.proofs.edges.drop_named.Goals as goal

pub loop-i-preserved : goal.loop-i-preserved
loop-i-preserved c = search (rules, dropping_laws)
