-- The search's four functions call each other, and meet their contracts together. The measure: four times the groups that are left, and
-- what orders the four among themselves. Each way out of a function is a law of SeekLaws.
use borrow.Author.Rules.{rules}
use native.Mathlib.Omega.{arith}
use Rattle.judge_cover.proofs.PlaceLaws.{laid_without}
use Rattle.judge_cover.proofs.SeekLaws.{seek_short, branching_more, gain_part, bounds_without}
use Rattle.judge_cover.proofs.seek.+branch_narrowed_seek_tried.Goals as goal

pub branch-loop-k-preserved : goal.branch-loop-k-preserved
branch-loop-k-preserved t c = let asked = c.requires in
    branching_more _ _ _ _ _ _ _ _ _ _ _ c.loop-k.invariant c.loop-k-test.true _ c.tried.ensures c.if-tried.false asked.n_bound.0 _ _
    c.place-from.ensures c.place-to.ensures _ _ c.drop_named-end.ensures c.if-end-from.false

pub seek-returns-then-total-size : goal.seek-returns-then-total-size
seek-returns-then-total-size t c = search (rules, seek_short)

pub tried-overflow_sub-rest : goal.tried-overflow_sub-rest
tried-overflow_sub-rest t c = let asked = c.requires in
    gain_part _ _ _ _ _ asked.n_bound.0 asked.n_bound.1 _ _ c.without-from.ensures.without c.without-to.ensures.without _ _ _ _
    c.without-less.ensures.without asked.bounds_of _ c.place.ensures

pub tried-seek-requires : goal.tried-seek-requires
tried-seek-requires t c =
    let asked = c.requires in
    let from = c.without-from.ensures.without in
    let to = c.without-to.ensures.without in (
      search rules,
      (
        omega (arith, asked.n_bound.0),
        (
          laid_without _ _ _ _ _ _ _ asked.n_bound.0 asked.n_bound.1 from to asked.laid,
          (
            laid_without _ _ _ _ _ _ _ asked.n_bound.0 asked.n_bound.1 from to asked.laid_2,
            bounds_without _ _ _ _ _ asked.n_bound.0 asked.n_bound.1 _ _ from to _ _ _ _ c.without-less.ensures.without asked.bounds_of _ c.place.ensures _ _
                c.left_by-left.ensures,
          ),
        ),
      ),
    )
