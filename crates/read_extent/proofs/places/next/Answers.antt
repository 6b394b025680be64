-- The first `ini` from the first place on is that from `at` on, and the tokens that are left reach to the end.
use Rattle.std.proofs.Common.{ℕ, List, ◌-◌, ◌+◌, ◌≤◌, length, take, drop, eqb, rules, tests}
use Rattle.std.proofs.lemmas.List.{length_push}
use Rattle.std.proofs.lemmas.Iterator.Consumers.{YieldsList-at, YieldsList-turn, YieldsList-end}
use Rattle.std.proofs.lemmas.Iterator.Splits.{YieldsList-from_slice_split}
use Rattle.text_bytes.proofs.Splits.{parts_turn, parts_over}
use Rattle.read_extent.proofs.PlacesLaws.{seek_past, seek_start, seek_end, seek_room, seek_here, seek_on}
use Rattle.read_extent.proofs.places.next.Goals as goal

abbrev rest : List ℕ → ℕ → List ℕ
rest s from = take (length s - from) (drop from s)

pub returns-then-part-from : goal.returns-then-part-from
returns-then-part-from c = seek_past _ _ c.if-part-from.true

pub loop-token-init : goal.loop-token-init
loop-token-init c = seek_start _ _ c.if-part-from.false

pub overflow_add-at-in-loop-token : goal.overflow_add-at-in-loop-token
overflow_add-at-in-loop-token c =
    let turn = YieldsList-turn
    (YieldsList-at c.into_iter-token-iterator.ensures.into_iter_gives (YieldsList-from_slice_split _ (λ b. eqb b 32) (rest c.args.part.now c.args.from) c.split-token-items.ensures.rest c.split-token-items.ensures.done c.split-token-items.ensures.closure (λ x r q k. search (rules, tests))))
    c.loop-token.yielded _ c.loop-token.yielded_by _ _ c.in-Some.token c.in-Some.is c.next.ensures.steps in
    let more = parts_turn 32 (rest c.args.part.now c.args.from) (length c.loop-token.yielded) c.in-Some.token.now turn in
    let room : c.loop-token.at + (length c.in-Some.token.now + 1) ≤ length c.args.part.now + 1 = seek_room _ _ _ _ c.loop-token.invariant _ more in
    search rules

pub returns-then-same : goal.returns-then-same
returns-then-same c =
    let turn = YieldsList-turn
    (YieldsList-at c.into_iter-token-iterator.ensures.into_iter_gives (YieldsList-from_slice_split _ (λ b. eqb b 32) (rest c.args.part.now c.args.from) c.split-token-items.ensures.rest c.split-token-items.ensures.done c.split-token-items.ensures.closure (λ x r q k. search (rules, tests))))
    c.loop-token.yielded _ c.loop-token.yielded_by _ _ c.in-Some.token c.in-Some.is c.next.ensures.steps in
    let more = parts_turn 32 (rest c.args.part.now c.args.from) (length c.loop-token.yielded) c.in-Some.token.now turn in
    seek_here _ _ _ _ c.loop-token.invariant _ more _ c.same.ensures c.if-same.true

pub loop-token-preserved : goal.loop-token-preserved
loop-token-preserved c =
    let turn = YieldsList-turn
    (YieldsList-at c.into_iter-token-iterator.ensures.into_iter_gives (YieldsList-from_slice_split _ (λ b. eqb b 32) (rest c.args.part.now c.args.from) c.split-token-items.ensures.rest c.split-token-items.ensures.done c.split-token-items.ensures.closure (λ x r q k. search (rules, tests))))
    c.loop-token.yielded _ c.loop-token.yielded_by _ _ c.in-Some.token c.in-Some.is c.next.ensures.steps in
    let more = parts_turn 32 (rest c.args.part.now c.args.from) (length c.loop-token.yielded) c.in-Some.token.now turn in
    seek_on _ _ _ _ c.loop-token.invariant _ more _ c.same.ensures c.if-same.false _ (length_push c.loop-token.yielded c.in-Some.token)

pub returns : goal.returns
returns c =
    let over = YieldsList-end
    (YieldsList-at c.into_iter-token-iterator.ensures.into_iter_gives (YieldsList-from_slice_split _ (λ b. eqb b 32) (rest c.args.part.now c.args.from) c.split-token-items.ensures.rest c.split-token-items.ensures.done c.split-token-items.ensures.closure (λ x r q k. search (rules, tests))))
    c.loop-token.yielded _ c.loop-token.yielded_by _ _ c.in-None.is c.next.ensures.steps in
    seek_end _ _ _ _ c.loop-token.invariant (parts_over 32 (rest c.args.part.now c.args.from) (length c.loop-token.yielded) over.1)
