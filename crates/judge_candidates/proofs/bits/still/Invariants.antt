-- `judge_candidates::bits::still` meets its contract: the automata below k have been looked at.
use Rattle.std.proofs.Common.{◌≡◌}
use Rattle.table_writes.specs.Sets.{mask}
use Rattle.judge_candidates.specs.Bits.{agrees}
use Rattle.judge_candidates.proofs.bits.still.Given as goal

abbrev pub invariant-loop-k : goal.invariant-loop-k
invariant-loop-k l = l.set ≡ mask (agrees l.old l.new) l.k
