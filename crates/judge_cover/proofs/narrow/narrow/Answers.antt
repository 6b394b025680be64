use Rattle.judge_cover.proofs.NarrowLaws.{narrowing_places, narrowing_room, narrowing_gain, narrowing_bound, narrowing_short, narrowing_more, narrowing_laws}
use borrow.Author.Rules.{rules}
use Rattle.judge_cover.proofs.narrow.narrow.Goals as goal

pub loop-k-init : goal.loop-k-init
loop-k-init c = search (rules, narrowing_laws)

pub sift-s-requires : goal.sift-s-requires
sift-s-requires c =
    let s = c.loop-k.invariant in
    let l = c.loop-k-test.true in
    let x = c.place-a.ensures in
    let y = c.place-b.ensures in
    let g = c.place-gain.ensures in
    record {
      from_le_to = narrowing_places _ _ _ _ _ _ _ _ _ _ _ _ _ _ _ s l _ _ _ x y g;
      to_bound = narrowing_room _ _ _ _ _ _ _ _ _ _ _ _ _ _ _ s l _ _ _ x y g;
      gain_le_total = narrowing_gain _ _ _ _ _ _ _ _ _ _ _ _ _ _ _ s l _ _ _ x y g;
      covers_at_most = narrowing_bound _ _ _ _ _ _ _ _ _ _ _ _ _ _ _ s l _ _ _ x y g;
    }

pub returns-then-next-count : goal.returns-then-next-count
returns-then-next-count c = search (rules, narrowing_laws)

pub returns-then-t-all : goal.returns-then-t-all
returns-then-t-all c = let s = c.loop-k.invariant in
    narrowing_short _ _ _ _ _ _ _ _ _ _ _ _ _ _ _
    s c.loop-k-test.true _ _ _ c.place-a.ensures c.place-b.ensures c.place-gain.ensures
    _ _ _ _ c.sift-s.ensures _ c.size-all.ensures c.if-t-all.true _ _ _
    s.starts_size s.ends_size s.less_size

pub loop-k-preserved : goal.loop-k-preserved
loop-k-preserved c = let s = c.loop-k.invariant in
    narrowing_more _ _ _ _ _ _ _ _ _ _ _ _ _ _ _
    s c.loop-k-test.true _ _ _ c.place-a.ensures c.place-b.ensures c.place-gain.ensures
    _ _ _ _ c.sift-s.ensures c.if-next-count.false

pub returns : goal.returns
returns c = search (rules, narrowing_laws)
