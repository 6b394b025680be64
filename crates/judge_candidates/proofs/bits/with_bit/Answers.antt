-- What the check does not find alone: the sum fits a word.
use borrow.Author.Rules.{rules}
use Rattle.judge_candidates.proofs.BitsLaws.{with_fits}
use Rattle.judge_candidates.proofs.bits.with_bit.Goals as goal

pub overflow_add-result : goal.overflow_add-result
overflow_add-result c = search (rules, with_fits)
