-- The sorts that are taken off are the top ones: `all` of them is the test of each turn.
use Rattle.std.proofs.Common.{rules, tests}
use Rattle.std.specs.Bool.{beq}
use Rattle.std.proofs.lemmas.Iterator.{YieldsList-from_slice}
use Rattle.std.proofs.lemmas.Iterator.Search.{all_from_yields_List}
use Rattle.read_predicate.proofs.FormedLaws.{taken_few, taken_all, taken_other}
use Rattle.read_predicate.proofs.formed.taken.Goals as goal

pub returns-in_err-below : goal.returns-in_err-below
returns-in_err-below c = taken_few _ _ _ _ _ c.from_residual.ensures (c.in_err-below.ensures {u = tt})

pub returns-then-found : goal.returns-then-found
returns-then-found c =
    let e = all_from_yields_List (λ x. beq x c.args.sort) _ _ _ c.all-found.ensures.ran (YieldsList-from_slice _ c.iter.ensures.rest) (λ x b q k. search (rules, tests)) in
    taken_all _ _ _ _ c.requires _ c.in_ok-below.ensures _ e c.if-found.true

pub returns-else-found : goal.returns-else-found
returns-else-found c =
    let e = all_from_yields_List (λ x. beq x c.args.sort) _ _ _ c.all-found.ensures.ran (YieldsList-from_slice _ c.iter.ensures.rest) (λ x b q k. search (rules, tests)) in
    taken_other _ _ _ _ c.requires _ c.in_ok-below.ensures _ e c.if-found.false
