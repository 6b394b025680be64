-- `judge_candidates::edges::gather` meets its contract: k automata have been passed.
use Rattle.judge_candidates.proofs.WalkLaws.{passing_next}
use Rattle.std.proofs.Common.{arith}
use Rattle.judge_candidates.proofs.edges.gather.Goals as goal

pub loop-k-preserved : goal.loop-k-preserved
loop-k-preserved c = passing_next _ _ _ _ _ _ _ _ _ _ _ _ _ c.loop-k.invariant (omega arith) _ c.leg_of-leg.ensures _ _ c.automaton-count.ensures
