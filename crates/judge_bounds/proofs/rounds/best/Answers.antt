use Rattle.judge_bounds.proofs.RoundLaws.{choosing_laws}
use borrow.Author.Rules.{rules}
use Rattle.judge_bounds.proofs.rounds.best.Goals as goal

pub returns : goal.returns
returns c = search (rules, choosing_laws)
