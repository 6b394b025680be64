-- `merge_words::survey::start` meets its contract.
use Rattle.merge_words.proofs.SurveyLaws.{start_is}
use borrow.Author.Rules.{rules}
use Rattle.merge_words.proofs.survey.start.Goals as goal

pub returns : goal.returns
returns c = search (rules, start_is)
