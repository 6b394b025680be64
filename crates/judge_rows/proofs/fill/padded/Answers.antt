-- `judge_rows::fill::padded` meets its contract: the part that is copied, and what stands behind it.
use Rattle.std.proofs.Common.{◌≤◌, length, ◌∙◌, ap, drop, ◌++◌, replicate, arith}
use Rattle.judge_rows.proofs.Filled.{filled_over}
use Rattle.judge_rows.proofs.fill.padded.Goals as goal

pub returns : goal.returns
returns g c =
    let n = c.min-n.result in
    let few : n ≤ g.row.N = omega arith in
    let inside : n ≤ length c.args.list.now = omega arith in
    ap (λ front. front ++ drop n (replicate g.row.N c.args.other)) c.copy_from_slice.ensures.after ∙
    filled_over g.row.N c.args.other c.args.list.now n few inside (λ h. omega arith)
