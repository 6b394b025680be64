-- What is judged so far, and the P's from `from` on, are all. The measure is what is left of the bytes.
use Rattle.read_starts.proofs.JudgingLaws.{judge_laws}
use borrow.Author.Rules.{rules}
use Rattle.read_starts.proofs.judging.judge.Goals as goal

pub loop-at-init : goal.loop-at-init
loop-at-init c = search (rules, judge_laws)

pub loop-at-smaller : goal.loop-at-smaller
loop-at-smaller c = search (rules, judge_laws)

pub loop-at-preserved : goal.loop-at-preserved
loop-at-preserved c = search (rules, judge_laws)

pub returns : goal.returns
returns c = search (rules, judge_laws)
