-- `judge_runs::over` meets its contract: each way out is a law of RunCodeLaws.
use Rattle.std.proofs.Common.{rules}
use Rattle.std.proofs.lemmas.Result.{err_from_is_err_and}
use Rattle.judge_runs.proofs.RunCodeLaws.{over_out, over_in}
use Rattle.judge_runs.proofs.over.Goals as goal

pub returns-in_err-p : goal.returns-in_err-p
returns-in_err-p c =
    let p = err_from_is_err_and c.from_residual.result c.from_residual.ensures.1 in
    rw (p.1, p.2) (search (rules, over_out, c.in_err-p.was))

pub returns : goal.returns
returns c = search (rules, over_in, c.in_ok-p.was)
