use Prim.Native.Nat.{◌+◌, ◌≤◌}
use Rattle.judge_bounds.proofs.WeightLaws.{weighing_laws, weighing_more, weighing_done, weighing_small}
use borrow.Author.Rules.{rules}
use Rattle.judge_bounds.proofs.weights.weigh.Goals as goal

pub loop-rest-preserved : goal.loop-rest-preserved
loop-rest-preserved c = search (rules, weighing_laws)

pub overflow_add-total : goal.overflow_add-total
overflow_add-total c =
    let more = weighing_more _ _ _ _ c.loop-rest.invariant _ _ c.lowest.ensures c.from-total.ensures in
    let small : c.loop-rest.total + c.from-total.result ≤ 8388480 =
    weighing_small _ _ _ _ more c.told-weights c.fits-weights in
    search rules

pub returns : goal.returns
returns c =
    let s = c.loop-rest.invariant in
    record {
      value = weighing_done _ _ _ _ s c.loop-rest-test.false;
      upper_bound = weighing_small _ _ _ _ s c.told-weights c.fits-weights;
    }
