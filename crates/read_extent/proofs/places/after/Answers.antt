-- What is taken from the first place on is what is taken up to `next` and from there on.
use Rattle.std.proofs.Common.{ℕ, List, ◌-◌, ◌+◌, ◌≤◌, length, take, drop, eqb, rules, tests}
use Rattle.std.proofs.lemmas.List.{length_push}
use Rattle.std.proofs.lemmas.Iterator.Consumers.{YieldsList-at, YieldsList-turn, YieldsList-end}
use Rattle.std.proofs.lemmas.Iterator.Splits.{YieldsList-from_slice_split}
use Rattle.text_bytes.proofs.Splits.{parts_turn, parts_over}
use Rattle.read_extent.proofs.PlacesLaws.{after_past, after_first, after_end, after_done, after_all, after_room, after_go}
use Rattle.read_extent.proofs.places.after.Goals as goal

abbrev rest : List ℕ → ℕ → List ℕ
rest s from = take (length s - from) (drop from s)

pub returns-then-part-at : goal.returns-then-part-at
returns-then-part-at c = after_past _ _ c.if-part-at.true

pub loop-token-init : goal.loop-token-init
loop-token-init c = after_first _ _ c.if-part-at.false

pub returns-then-wanted-eq0 : goal.returns-then-wanted-eq0
returns-then-wanted-eq0 c = after_done _ _ _ _ _ _ c.loop-token.invariant c.if-wanted-eq0.true

pub returns-then-part-wanted : goal.returns-then-part-wanted
returns-then-part-wanted c = after_all _ _ _ _ _ _ c.loop-token.invariant c.if-part-wanted.true

pub overflow_add-next-in-loop-token : goal.overflow_add-next-in-loop-token
overflow_add-next-in-loop-token c =
    let turn = YieldsList-turn
    (YieldsList-at c.into_iter-token-iterator.ensures.into_iter_gives (YieldsList-from_slice_split _ (λ b. eqb b 32) (rest c.args.part.now c.args.at) c.split-token-items.ensures.rest c.split-token-items.ensures.done c.split-token-items.ensures.closure (λ x r q k. search (rules, tests))))
    c.loop-token.yielded _ c.loop-token.yielded_by _ _ c.in-Some.token c.in-Some.is c.next.ensures.steps in
    let more = parts_turn 32 (rest c.args.part.now c.args.at) (length c.loop-token.yielded) c.in-Some.token.now turn in
    let room : c.loop-token.next + (length c.in-Some.token.now + 1) ≤ length c.args.part.now + 1 = after_room _ _ _ _ _ _ c.loop-token.invariant _ more in
    search rules

pub loop-token-preserved : goal.loop-token-preserved
loop-token-preserved c =
    let turn = YieldsList-turn
    (YieldsList-at c.into_iter-token-iterator.ensures.into_iter_gives (YieldsList-from_slice_split _ (λ b. eqb b 32) (rest c.args.part.now c.args.at) c.split-token-items.ensures.rest c.split-token-items.ensures.done c.split-token-items.ensures.closure (λ x r q k. search (rules, tests))))
    c.loop-token.yielded _ c.loop-token.yielded_by _ _ c.in-Some.token c.in-Some.is c.next.ensures.steps in
    let more = parts_turn 32 (rest c.args.part.now c.args.at) (length c.loop-token.yielded) c.in-Some.token.now turn in
    after_go _ _ _ _ _ _ c.loop-token.invariant _ more _ _ c.if-wanted-eq0.false c.calls_for.ensures.value c.is_count-counts.ensures _ (length_push c.loop-token.yielded c.in-Some.token)

pub returns : goal.returns
returns c =
    let over = YieldsList-end
    (YieldsList-at c.into_iter-token-iterator.ensures.into_iter_gives (YieldsList-from_slice_split _ (λ b. eqb b 32) (rest c.args.part.now c.args.at) c.split-token-items.ensures.rest c.split-token-items.ensures.done c.split-token-items.ensures.closure (λ x r q k. search (rules, tests))))
    c.loop-token.yielded _ c.loop-token.yielded_by _ _ c.in-None.is c.next.ensures.steps in
    after_end _ _ _ _ _ _ c.loop-token.invariant (parts_over 32 (rest c.args.part.now c.args.at) (length c.loop-token.yielded) over.1)
