-- `table_places::own::own_sets` meets its contract.
use mathlib.Core.Path.{◌≡◌, ◌∙◌, sym}
use Prim.Native.Nat.{◌<◌}
use lib.ListN.{length, length-map}
use Rattle.std.proofs.lemmas.List.{get_or-map}
use native.Mathlib.Omega.{arith}
use Rattle.std.proofs.Common.{rules}
use Rattle.std.proofs.lemmas.Grind.{same_number_lists}
use Rattle.table_places.specs.Own.{own_sets, own_set}
use Rattle.table_places.proofs.own.own_sets.Goals as goal

pub returns : goal.returns
unfolding own_sets
returns c =
    let m = c.map.ensures.items in
    let long : length c.args.x.sets ≡ 16 = search rules in
    same_number_lists _ _ (m.long ∙ sym (length-map c.args.x.sets (own_set c.args.t.now) ∙ long)) (λ k h.
    let inside : k < 16 = omega (arith, m.long) in
    let a = m.at k 0 0 inside in
    let b = a.2 in
    search (rules, get_or-map))
