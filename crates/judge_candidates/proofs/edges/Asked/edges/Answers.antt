-- `judge_candidates::edges::Asked::edges` meets its contract: the edges that are left give the rest of the answer.
use Rattle.std.proofs.Common.{rules}
use Rattle.judge_candidates.proofs.WalkLaws.{edges_done, edges_step}
use Rattle.judge_candidates.proofs.edges.Asked.edges.Goals as goal

pub loop-preserved : goal.loop-preserved
loop-preserved c = search (rules, edges_step)

pub returns : goal.returns
returns c = search (rules, edges_done)
