-- `judge_candidates::bits::still` meets its contract: a set of at most 16 automata fits a word.
use Rattle.std.proofs.Common.{◌<◌, ◌^◌, arith, rules}
use Rattle.judge_candidates.proofs.BitsLaws.{noted_fits}
use Rattle.judge_candidates.proofs.bits.still.Goals as goal

pub overflow_cast-result : goal.overflow_cast-result
overflow_cast-result c =
    let narrow : c.loop-k.set < 2 ^ 32 = noted_fits _ _ _ c.loop-k.invariant 32 (omega arith) in search rules
