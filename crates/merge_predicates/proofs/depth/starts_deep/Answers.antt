-- `merge_predicates::depth::starts_deep` meets its contract: from each turn on, the definition goes on to the same
-- answer.
use Rattle.merge_predicates.proofs.DepthLaws.{depth_laws}
use borrow.Author.Rules.{rules}
use Rattle.merge_predicates.proofs.depth.starts_deep.Goals as goal

pub loop-preserved : goal.loop-preserved
loop-preserved c = search (rules, depth_laws)
