use Rattle.std.proofs.Common.{length, eqb, rules, tests}
use Rattle.std.proofs.lemmas.List.{length_push}
use Rattle.std.proofs.lemmas.Iterator.Consumers.{YieldsList-at, YieldsList-turn, YieldsList-end}
use Rattle.std.proofs.lemmas.Iterator.Splits.{YieldsList-from_slice_split}
use Rattle.text_bytes.proofs.Splits.{parts_turn, parts_over}
use Rattle.read_words.proofs.ReadLaws.{read_laws}
use Rattle.read_words.proofs.reading.read.Goals as goal

pub loop-token-preserved-then-not-is_word : goal.loop-token-preserved-then-not-is_word
loop-token-preserved-then-not-is_word c =
    let turn = YieldsList-turn
    (YieldsList-at c.into_iter-token-iterator.ensures.into_iter_gives (YieldsList-from_slice_split _ (λ b. eqb b 32) c.args.part.now c.split-token-items.ensures.rest c.split-token-items.ensures.done c.split-token-items.ensures.closure (λ x r q k. search (rules, tests))))
    c.loop-token.yielded _ c.loop-token.yielded_by _ _ c.in-Some.token c.in-Some.is c.next.ensures.steps in
    let more = parts_turn 32 c.args.part.now (length c.loop-token.yielded) c.in-Some.token.now turn in
    search (rules, read_laws, length_push c.loop-token.yielded c.in-Some.token)

pub returns-then-is_stray : goal.returns-then-is_stray
returns-then-is_stray c =
    let turn = YieldsList-turn
    (YieldsList-at c.into_iter-token-iterator.ensures.into_iter_gives (YieldsList-from_slice_split _ (λ b. eqb b 32) c.args.part.now c.split-token-items.ensures.rest c.split-token-items.ensures.done c.split-token-items.ensures.closure (λ x r q k. search (rules, tests))))
    c.loop-token.yielded _ c.loop-token.yielded_by _ _ c.in-Some.token c.in-Some.is c.next.ensures.steps in
    let more = parts_turn 32 c.args.part.now (length c.loop-token.yielded) c.in-Some.token.now turn in
    search (rules, read_laws, length_push c.loop-token.yielded c.in-Some.token)

pub returns-then-out-n : goal.returns-then-out-n
returns-then-out-n c =
    let turn = YieldsList-turn
    (YieldsList-at c.into_iter-token-iterator.ensures.into_iter_gives (YieldsList-from_slice_split _ (λ b. eqb b 32) c.args.part.now c.split-token-items.ensures.rest c.split-token-items.ensures.done c.split-token-items.ensures.closure (λ x r q k. search (rules, tests))))
    c.loop-token.yielded _ c.loop-token.yielded_by _ _ c.in-Some.token c.in-Some.is c.next.ensures.steps in
    let more = parts_turn 32 c.args.part.now (length c.loop-token.yielded) c.in-Some.token.now turn in
    search (rules, read_laws, length_push c.loop-token.yielded c.in-Some.token)

pub loop-token-preserved : goal.loop-token-preserved
loop-token-preserved c =
    let turn = YieldsList-turn
    (YieldsList-at c.into_iter-token-iterator.ensures.into_iter_gives (YieldsList-from_slice_split _ (λ b. eqb b 32) c.args.part.now c.split-token-items.ensures.rest c.split-token-items.ensures.done c.split-token-items.ensures.closure (λ x r q k. search (rules, tests))))
    c.loop-token.yielded _ c.loop-token.yielded_by _ _ c.in-Some.token c.in-Some.is c.next.ensures.steps in
    let more = parts_turn 32 c.args.part.now (length c.loop-token.yielded) c.in-Some.token.now turn in
    search (rules, read_laws, length_push c.loop-token.yielded c.in-Some.token)

pub returns-then-is_word : goal.returns-then-is_word
returns-then-is_word c =
    let over = YieldsList-end
    (YieldsList-at c.into_iter-token-iterator.ensures.into_iter_gives (YieldsList-from_slice_split _ (λ b. eqb b 32) c.args.part.now c.split-token-items.ensures.rest c.split-token-items.ensures.done c.split-token-items.ensures.closure (λ x r q k. search (rules, tests))))
    c.loop-token.yielded _ c.loop-token.yielded_by _ _ c.in-None.is c.next.ensures.steps in
    let past = parts_over 32 c.args.part.now (length c.loop-token.yielded) over.1 in
    search (rules, read_laws)

pub returns-else-is_word : goal.returns-else-is_word
returns-else-is_word c =
    let over = YieldsList-end
    (YieldsList-at c.into_iter-token-iterator.ensures.into_iter_gives (YieldsList-from_slice_split _ (λ b. eqb b 32) c.args.part.now c.split-token-items.ensures.rest c.split-token-items.ensures.done c.split-token-items.ensures.closure (λ x r q k. search (rules, tests))))
    c.loop-token.yielded _ c.loop-token.yielded_by _ _ c.in-None.is c.next.ensures.steps in
    let past = parts_over 32 c.args.part.now (length c.loop-token.yielded) over.1 in
    search (rules, read_laws)
