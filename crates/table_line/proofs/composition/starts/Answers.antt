-- `table_line::composition::starts` meets its contract: from each turn on, the definition goes on to the same line.
use mathlib.Core.Path.{◌≡◌, ◌∙◌}
use Prim.Native.Nat.{suc, ◌+◌, ◌-◌}
use native.Mathlib.Omega.{arith}
use borrow.Author.Rules.{rules}
use Rattle.table_line.proofs.CompositionCode.{starts_laws, starts_bad, starts_fits, starts_few, starts_on}
use Rattle.table_line.proofs.composition.starts.Goals as goal

pub returns-in_err-line : goal.returns-in_err-line
returns-in_err-line c =
    let more : c.args.count - c.loop.counter ≡ suc (c.args.count - (c.loop.counter + 1)) = omega arith in
    let ended = c.in_err-line.was in
    c.from_residual.ensures ∙ starts_bad _ _ _ _ _ _ c.loop.invariant.1 _ more _ c.with_nodes-before.ensures _ c.location.ensures ended

pub overflow_add-total : goal.overflow_add-total
overflow_add-total c =
    let more : c.args.count - c.loop.counter ≡ suc (c.args.count - (c.loop.counter + 1)) = omega arith in
    let went = c.in_ok-line.was in
    starts_fits _ _ _ _ _ _ c.loop.invariant.1 _ more _ c.with_nodes-before.ensures _ c.location.ensures _ went

pub loop-preserved : goal.loop-preserved
loop-preserved c =
    let more : c.args.count - c.loop.counter ≡ suc (c.args.count - (c.loop.counter + 1)) = omega arith in
    let went = c.in_ok-line.was in (
      starts_few _ _ _ _ _ _ c.loop.invariant.1 _ more _ c.with_nodes-before.ensures _ c.location.ensures _ went,
      starts_on _ _ _ _ _ _ c.loop.invariant.1 _ more _ c.with_nodes-before.ensures _ c.location.ensures _ went,
    )

pub returns : goal.returns
returns c = search (rules, starts_laws)
