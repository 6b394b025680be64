-- `judge::run` meets its contract: each way out is a law of RunLaws.
use Rattle.std.proofs.Common.{rules}
use Rattle.std.proofs.lemmas.Result.{err_from_is_err_and}
use Rattle.judge.proofs.RunLaws.{run_bad, bad_answers, bad_locations, bad_values, run_done, done_answers, done_locations, done_values}
use Rattle.judge.proofs.run.Goals as goal

pub returns-in_err-check : goal.returns-in_err-check
returns-in_err-check c =
    let p = err_from_is_err_and c.from_residual.result c.from_residual.ensures.1 in
    record {
      value = rw (p.1, p.2) (search (rules, run_bad, c.in_err-check.was));
      answers_after = search (rules, bad_answers, c.in_err-check.was);
      end_locations_after = search (rules, bad_locations, c.in_err-check.was);
      end_values_after = search (rules, bad_values, c.in_err-check.was);
    }

pub returns : goal.returns
returns c =
    record {
      value = search (rules, run_done, c.in_ok-check.was);
      answers_after = search (rules, done_answers, c.in_ok-check.was);
      end_locations_after = search (rules, done_locations, c.in_ok-check.was);
      end_values_after = search (rules, done_values, c.in_ok-check.was);
    }
