use Rattle.std.proofs.Common.{length, eqb, rules, tests}
use Rattle.std.proofs.lemmas.List.{length_push}
use Rattle.std.proofs.lemmas.Iterator.Consumers.{YieldsList-at, YieldsList-turn, YieldsList-end}
use Rattle.std.proofs.lemmas.Iterator.Splits.{YieldsList-from_slice_split}
use Rattle.text_bytes.proofs.Splits.{parts_turn, parts_over}
use Rattle.read_tokens.proofs.NumbersLaws.{numbers_laws, sounds_start, sounds_end, sounds_go}
use Rattle.read_tokens.proofs.numbers.numbers_sound.Goals as goal

pub loop-token-init : goal.loop-token-init
loop-token-init c = sounds_start c.args.part.now

pub returns-then-not-sound : goal.returns-then-not-sound
returns-then-not-sound c =
    let turn = YieldsList-turn
    (YieldsList-at c.into_iter-token-iterator.ensures.into_iter_gives (YieldsList-from_slice_split _ (λ b. eqb b 32) c.args.part.now c.split-token-items.ensures.rest c.split-token-items.ensures.done c.split-token-items.ensures.closure (λ x r q k. search (rules, tests))))
    c.loop-token.yielded _ c.loop-token.yielded_by _ _ c.in-Some.token c.in-Some.is c.next.ensures.steps in
    let more = parts_turn 32 c.args.part.now (length c.loop-token.yielded) c.in-Some.token.now turn in
    search (rules, numbers_laws)

pub loop-token-preserved : goal.loop-token-preserved
loop-token-preserved c =
    let turn = YieldsList-turn
    (YieldsList-at c.into_iter-token-iterator.ensures.into_iter_gives (YieldsList-from_slice_split _ (λ b. eqb b 32) c.args.part.now c.split-token-items.ensures.rest c.split-token-items.ensures.done c.split-token-items.ensures.closure (λ x r q k. search (rules, tests))))
    c.loop-token.yielded _ c.loop-token.yielded_by _ _ c.in-Some.token c.in-Some.is c.next.ensures.steps in
    let more = parts_turn 32 c.args.part.now (length c.loop-token.yielded) c.in-Some.token.now turn in
    sounds_go _ _ _ c.loop-token.invariant _ more _ c.sound.ensures c.if-not-sound.false _ c.kind_of-kind.ensures _ (length_push c.loop-token.yielded c.in-Some.token)

pub returns : goal.returns
returns c =
    let over = YieldsList-end
    (YieldsList-at c.into_iter-token-iterator.ensures.into_iter_gives (YieldsList-from_slice_split _ (λ b. eqb b 32) c.args.part.now c.split-token-items.ensures.rest c.split-token-items.ensures.done c.split-token-items.ensures.closure (λ x r q k. search (rules, tests))))
    c.loop-token.yielded _ c.loop-token.yielded_by _ _ c.in-None.is c.next.ensures.steps in
    sounds_end _ _ _ c.loop-token.invariant (parts_over 32 c.args.part.now (length c.loop-token.yielded) over.1)
