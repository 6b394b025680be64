-- `merge_predicates::depth::depth_at` meets its contract: the operands so far, and those to come.
use Rattle.merge_predicates.proofs.DepthLaws.{depth_laws}
use borrow.Author.Rules.{rules}
use Rattle.merge_predicates.proofs.depth.+depth_at.Goals as goal

pub loop-preserved : goal.loop-preserved
loop-preserved t c = search (rules, depth_laws)
