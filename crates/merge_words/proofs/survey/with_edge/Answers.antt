-- `merge_words::survey::with_edge` meets its contract.
use Rattle.merge_words.proofs.SurveyLaws.{with_edge_is}
use borrow.Author.Rules.{rules}
use Rattle.merge_words.proofs.survey.with_edge.Goals as goal

pub returns : goal.returns
returns c = search (rules, with_edge_is)
