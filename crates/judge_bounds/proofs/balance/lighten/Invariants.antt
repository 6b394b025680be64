use lib.ListN.{length}
use mathlib.Core.Path.{◌≡◌}
use Rattle.judge_bounds.proofs.balance.lighten.Given as goal

abbrev pub invariant-loop-w : goal.invariant-loop-w
invariant-loop-w l = length l.weights ≡ 64
