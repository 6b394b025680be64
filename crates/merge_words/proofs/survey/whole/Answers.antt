-- `merge_words::survey::whole` meets its contract.
use Rattle.merge_words.proofs.SurveyLaws.{whole_is}
use borrow.Author.Rules.{rules}
use Rattle.merge_words.proofs.survey.whole.Goals as goal

pub returns : goal.returns
returns c = search (rules, whole_is)
