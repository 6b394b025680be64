use mathlib.Core.Path.{ap, ◌∙◌}
use lib.Bits.{and_mask}
use lib.Count.{ones}
use Rattle.judge_bounds.proofs.RoundLaws.{count_is}
use Rattle.judge_bounds.proofs.edges.Takers.count.Goals as goal

pub returns : goal.returns
returns c = let set = c.args.self.now.set in
    c.size.ensures ∙ ap ones (and_mask set 16) ∙ count_is set 16
