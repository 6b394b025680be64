-- `filled` meets its contract: the definition goes on with the parts that are left and the numbers so far.
use Rattle.std.proofs.Common.{length, eqb, rules, tests, ◌∙◌}
use Rattle.std.proofs.lemmas.List.{length_push}
use Rattle.std.proofs.lemmas.Iterator.Consumers.{YieldsList-at, YieldsList-turn, YieldsList-end}
use Rattle.std.proofs.lemmas.Iterator.Splits.{YieldsList-from_slice_split}
use Rattle.text_bytes.proofs.Splits.{parts_turn, parts_over}
use Rattle.read_list.proofs.CodeLaws.{items_start, items_end, items_no, items_go}
use Rattle.read_list.proofs.filled.Goals as goal

pub loop-item-init : goal.loop-item-init
loop-item-init c = items_start c.args.part.now _ _ c.no_items-seen.ensures

pub returns-in_err-k : goal.returns-in_err-k
returns-in_err-k c =
    let turn = YieldsList-turn
    (YieldsList-at c.into_iter-item-iterator.ensures.into_iter_gives (YieldsList-from_slice_split _ (λ b. eqb b 44) c.args.part.now c.split-item-items.ensures.rest c.split-item-items.ensures.done c.split-item-items.ensures.closure (λ x r q k. search (rules, tests))))
    c.loop-item.yielded _ c.loop-item.yielded_by _ _ c.in-Some.item c.in-Some.is c.next.ensures.steps in
    c.from_residual.ensures ∙
    items_no c.args.part.now _ _ _ c.loop-item.invariant _ (parts_turn 44 c.args.part.now (length c.loop-item.yielded) c.in-Some.item.now turn) c.in_err-k.ensures

pub loop-item-preserved : goal.loop-item-preserved
loop-item-preserved c =
    let turn = YieldsList-turn
    (YieldsList-at c.into_iter-item-iterator.ensures.into_iter_gives (YieldsList-from_slice_split _ (λ b. eqb b 44) c.args.part.now c.split-item-items.ensures.rest c.split-item-items.ensures.done c.split-item-items.ensures.closure (λ x r q k. search (rules, tests))))
    c.loop-item.yielded _ c.loop-item.yielded_by _ _ c.in-Some.item c.in-Some.is c.next.ensures.steps in
    items_go c.args.part.now _ _ _ c.loop-item.invariant _ (parts_turn 44 c.args.part.now (length c.loop-item.yielded) c.in-Some.item.now turn) _ _ _ c.in_ok-k.ensures c.with_item-seen.ensures (length_push c.loop-item.yielded c.in-Some.item)

pub returns : goal.returns
returns c =
    let over = YieldsList-end
    (YieldsList-at c.into_iter-item-iterator.ensures.into_iter_gives (YieldsList-from_slice_split _ (λ b. eqb b 44) c.args.part.now c.split-item-items.ensures.rest c.split-item-items.ensures.done c.split-item-items.ensures.closure (λ x r q k. search (rules, tests))))
    c.loop-item.yielded _ c.loop-item.yielded_by _ _ c.in-None.is c.next.ensures.steps in
    items_end c.args.part.now _ _ _ c.loop-item.invariant (parts_over 44 c.args.part.now (length c.loop-item.yielded) over.1)
