use Prim.Native.Nat.{◌≤◌}
use Rattle.judge_bounds.proofs.parts.spread_by_all.Given as goal

abbrev pub invariant-loop-k : goal.invariant-loop-k
invariant-loop-k l = l.k ≤ 16
