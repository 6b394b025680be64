-- `judge_runs::all` meets its contract: the run goes on to the same end.
use Rattle.judge_runs.proofs.RunCodeLaws.{going_on}
use Rattle.std.proofs.Common.{arith}
use Rattle.judge_runs.proofs.all.Goals as goal

pub loop-k-preserved : goal.loop-k-preserved
loop-k-preserved c =
    going_on _ _ _ _ _ _ _ _ _ _ _ _ c.loop-k.invariant c.loop-k-test.true c.min.result c.min-in-loop-k.result
    (omega arith) (λ h. omega arith) (omega arith) (λ h. omega arith)
    c.put-turn.result _ _ _ _ c.split_at.ensures.front c.split_at.ensures.back c.split_at-in-loop-k.ensures.front c.split_at-in-loop-k.ensures.back
    c.put-turn.ensures
