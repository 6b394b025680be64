use Rattle.judge_bounds.proofs.RoundLaws.{Summing}
use lib.ListN.{length}
use mathlib.Core.Path.{◌≡◌}
use Rattle.judge_bounds.proofs.rounds.round.Given as goal

abbrev pub invariant-loop-k : goal.invariant-loop-k
invariant-loop-k l = (length l.next ≡ 64) × Summing l.t.masks.now l.t.first.now l.t.set l.weights l.u l.total l.k
