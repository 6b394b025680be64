-- `merge_predicates::depth::operands_of` meets its contract: each way out is a law of DepthLaws.
use Rattle.merge_predicates.proofs.DepthLaws.{arity_laws}
use borrow.Author.Rules.{rules}
use Rattle.merge_predicates.proofs.depth.operands_of.Goals as goal

pub returns-in-All : goal.returns-in-All
returns-in-All c = search (rules, arity_laws)
