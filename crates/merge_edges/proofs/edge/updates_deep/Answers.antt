-- `merge_edges::edge::updates_deep` meets its contract: the chain asks of each place what the definition asks.
use mathlib.Core.Path.{◌≡◌, ◌∙◌}
use Rattle.std.specs.List.{list_any}
use Rattle.std.proofs.Common.{rules, tests}
use Rattle.std.proofs.lemmas.Iterator.{YieldsList-from_slice}
use Rattle.std.proofs.lemmas.Iterator.Search.{any_from_yields_List}
use Rattle.merge_edges.specs.Edge.{update_deep}
use Rattle.merge_edges.proofs.EdgeLaws.{some_deep}
use Rattle.merge_edges.proofs.edge.updates_deep.Goals as goal

pub returns : goal.returns
returns c =
    let h : c.any.result ≡ list_any (update_deep c.args.t.now) c.args.places =
    any_from_yields_List (update_deep c.args.t.now) _ _ c.any.result c.any.ensures.ran
    (YieldsList-from_slice c.args.places cc) (λ x b q k. search (rules, tests)) in
    h ∙ some_deep c.args.t.now c.args.places
