use Rattle.read_words.proofs.CodeLaws.{keyword_laws}
use Rattle.node_words.specs.Nodes.{meant, fitted, word_for}
use borrow.Author.Rules.{rules}
use Rattle.read_words.proofs.codes.operator_code.Goals as goal

pub returns-then-same : goal.returns-then-same
unfolding word_for fitted meant
returns-then-same c = search (rules, keyword_laws) depth 8

pub returns-then-same-2 : goal.returns-then-same-2
unfolding word_for fitted meant
returns-then-same-2 c = search (rules, keyword_laws) depth 8

pub returns-then-same-3 : goal.returns-then-same-3
unfolding word_for fitted meant
returns-then-same-3 c = search (rules, keyword_laws) depth 8

pub returns-then-same-4 : goal.returns-then-same-4
unfolding word_for fitted meant
returns-then-same-4 c = search (rules, keyword_laws) depth 8

pub returns : goal.returns
unfolding word_for fitted meant
returns c = search (rules, keyword_laws) depth 8
