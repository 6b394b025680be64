-- `table_tree::checked::walk` meets its contract: from each turn on, the definition goes on to the same answer.
use Rattle.table_tree.proofs.CheckLaws.{walk_off, walk_owed, walk_leaves, walk_inis, walk_on}
use mathlib.Core.Path.{◌≡◌, ◌∙◌}
use Prim.Native.Nat.{suc, ◌+◌, ◌-◌}
use native.Mathlib.Omega.{arith}
use Rattle.table_tree.proofs.checked.walk.Goals as goal

pub loop-preserved : goal.loop-preserved
loop-preserved c =
    let more : c.args.count - c.loop.counter ≡ suc (c.args.count - (c.loop.counter + 1)) = omega arith in
    let went = c.in_ok-step.was in
    let e = c.one_node.ensures in (
      walk_owed _ _ _ _ _ _ _ _ _ c.loop.invariant.3 _ more _ e _ went _ c.loop.invariant.0,
      walk_leaves _ _ _ _ _ _ _ _ _ c.loop.invariant.3 _ more _ e _ went _ c.loop.invariant.1,
      walk_inis _ _ _ _ _ _ _ _ _ c.loop.invariant.3 _ more _ e _ went _ c.loop.invariant.2,
      walk_on _ _ _ _ _ _ _ _ _ c.loop.invariant.3 _ more _ e _ went,
    )

pub returns-in_err-step : goal.returns-in_err-step
returns-in_err-step c =
    let more : c.args.count - c.loop.counter ≡ suc (c.args.count - (c.loop.counter + 1)) = omega arith in
    let ended = c.in_err-step.was in
    c.from_residual.ensures ∙ walk_off _ _ _ _ _ _ _ _ _ c.loop.invariant.3 _ more _ c.one_node.ensures ended
