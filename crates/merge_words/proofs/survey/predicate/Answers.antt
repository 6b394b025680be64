-- `merge_words::survey::predicate` meets its contract.
use Rattle.merge_words.proofs.SurveyLaws.{predicate_is}
use borrow.Author.Rules.{rules}
use Rattle.merge_words.proofs.survey.predicate.Goals as goal

pub returns : goal.returns
returns c = search (rules, predicate_is)
