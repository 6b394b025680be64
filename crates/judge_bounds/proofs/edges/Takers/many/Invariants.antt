use Prim.Native.Nat.{◌*◌, ◌≤◌}
use Rattle.judge_bounds.proofs.edges.Takers.many.Given as goal

abbrev pub invariant-loop-k : goal.invariant-loop-k
invariant-loop-k l = (l.filled ≤ l.k) × ((l.all ≤ 512 * l.k) × (l.k ≤ 16))
