-- `judge_runs::listed` meets its contract: a list with no fault leaves what its run does.
use Rattle.judge_runs.proofs.RunCodeLaws.{listed_ran}
use borrow.Author.Rules.{rules}
use Rattle.judge_runs.proofs.listed.Goals as goal

pub returns : goal.returns
returns c = search (rules, listed_ran)
