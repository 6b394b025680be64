-- `merge_edges::edge::takers_nodes` meets its contract: the chain adds what the definition adds.
use mathlib.Core.Path.{◌≡◌, ◌∙◌}
use Rattle.std.specs.List.{fold}
use Rattle.std.proofs.Common.{rules}
use Rattle.std.proofs.iter.runs.Made.{chains}
use Rattle.merge_edges.specs.Edge.{taker_nodes}
use Rattle.merge_edges.proofs.EdgeLaws.{nodes_folded}
use Rattle.merge_edges.proofs.edge.takers_nodes.Goals as goal

pub returns : goal.returns
returns c =
    let h : c.fold.result ≡ fold (taker_nodes c.args.t.now) 1 c.args.places = search (rules, chains) in
    h ∙ nodes_folded c.args.t.now 1 c.args.places
