-- `judge_candidates::bits::changed` meets its contract: the variables below k have been looked at.
use Rattle.std.proofs.Common.{◌≡◌}
use Rattle.table_writes.specs.Sets.{mask}
use Rattle.judge_candidates.specs.Bits.{differs}
use Rattle.judge_candidates.proofs.bits.changed.Given as goal

abbrev pub invariant-loop-k : goal.invariant-loop-k
invariant-loop-k l = l.set ≡ mask (differs l.before l.after) l.k
