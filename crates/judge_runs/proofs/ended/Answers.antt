-- `judge_runs::ended` meets its contract: a law of RunCodeLaws.
use Rattle.judge_runs.proofs.RunCodeLaws.{ended_is}
use borrow.Author.Rules.{rules}
use Rattle.judge_runs.proofs.ended.Goals as goal

pub returns : goal.returns
returns c = search (rules, ended_is)
