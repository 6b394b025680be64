use Rattle.judge_cover.proofs.CodeLaws.{gain_laws, gain_small}
use borrow.Author.Rules.{rules}
use Rattle.judge_cover.proofs.bounds.gain_within.Goals as goal

pub returns : goal.returns
returns c = search (rules, gain_laws, gain_small)
