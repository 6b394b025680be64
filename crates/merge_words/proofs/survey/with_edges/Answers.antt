-- From each edge on, the definition goes on to the same survey.
use Rattle.merge_words.proofs.SurveyLaws.{with_edges_laws}
use borrow.Author.Rules.{rules}
use Rattle.merge_words.proofs.survey.with_edges.Goals as goal

pub loop-init : goal.loop-init
loop-init c = search (rules, with_edges_laws)

pub loop-preserved : goal.loop-preserved
loop-preserved c = search (rules, with_edges_laws)

pub returns : goal.returns
returns c = search (rules, with_edges_laws)
