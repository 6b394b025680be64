use Rattle.judge_bounds.proofs.PartLaws.{fitting_laws}
use borrow.Author.Rules.{rules}
use Rattle.judge_bounds.proofs.parts.fit_all.Goals as goal

pub returns : goal.returns
returns c = search (rules, fitting_laws)
