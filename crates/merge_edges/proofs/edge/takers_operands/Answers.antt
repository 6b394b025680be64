-- `merge_edges::edge::takers_operands` meets its contract: the chain adds what the definition adds.
use mathlib.Core.Path.{◌≡◌, ◌∙◌}
use Rattle.std.specs.List.{fold}
use Rattle.std.proofs.Common.{rules}
use Rattle.std.proofs.iter.runs.Made.{chains}
use Rattle.merge_edges.specs.Edge.{taker_operands}
use Rattle.merge_edges.proofs.EdgeLaws.{operands_folded}
use Rattle.merge_edges.proofs.edge.takers_operands.Goals as goal

pub returns : goal.returns
returns c =
    let h : c.fold.result ≡ fold taker_operands 0 c.args.places = search (rules, chains) in
    h ∙ operands_folded 0 c.args.places
