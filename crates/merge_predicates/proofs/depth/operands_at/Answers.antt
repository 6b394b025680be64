-- `merge_predicates::depth::operands_at` meets its contract; past the end there is 0.
use Rattle.merge_predicates.proofs.DepthLaws.{operands_is}
use Rattle.std.proofs.Common.{arith, ◌≡◌, get_or}
use Rattle.std.proofs.lemmas.Grind.{common_steps}
use Rattle.merge_predicates.proofs.depth.operands_at.Goals as goal

pub returns : goal.returns
returns c =
    let w : c.unwrap_or.result ≡ get_or c.args.t.now c.args.at 0 = grind (arith, common_steps) in
    operands_is c.args.t.now c.args.at _ _ _ c.node_of.ensures c.operands_of.ensures w
