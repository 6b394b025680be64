-- `merge_distinct::firsts::is_listed` meets its contract: the chain asks of each place what the definition asks.
use Rattle.std.specs.List.{list_any}
use Rattle.std.proofs.Common.{◌≡◌, ◌∙◌, take, rules, tests}
use Rattle.std.proofs.lemmas.Iterator.{YieldsList-from_slice}
use Rattle.std.proofs.lemmas.Iterator.Search.{any_from_yields_List}
use Rattle.merge_distinct.specs.Equality.{same_edge_at}
use Rattle.merge_distinct.proofs.FirstsLaws.{any_listed}
use Rattle.merge_distinct.proofs.firsts.is_listed.Goals as goal

pub returns : goal.returns
returns c =
    let listed = take c.min.result c.args.firsts.now in
    let h : c.any.result ≡ list_any (same_edge_at c.args.t.now c.args.at) listed =
    any_from_yields_List (same_edge_at c.args.t.now c.args.at) _ _ c.any.result c.any.ensures.ran
    (YieldsList-from_slice listed cc) (λ x b q k. search (rules, tests)) in
    h ∙ any_listed c.args.t.now c.args.firsts.now c.args.at c.args.n c.min.result c.told-firsts c.min.ensures
