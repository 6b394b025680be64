use Rattle.std.proofs.Common.{◌∙◌}
use Rattle.read_words.proofs.CodeLaws.{biased_by, moved_sum}
use Rattle.read_words.proofs.codes.biased.Goals as goal

pub returns : goal.returns
returns c =
    let sum = moved_sum c.args.z c.ranges.z c.from.result c.from-2.result c.from.ensures c.from-2.ensures in
    c.unwrap_or.ensures ∙ biased_by c.args.z c.try_from.result c.ranges.z (rw sum at c.try_from.ensures)
