-- `merge_words::linearize` meets its contract: each way out is a law.
use Rattle.merge_words.proofs.LinearizeLaws.{linearize_laws}
use borrow.Author.Rules.{rules}
use Rattle.merge_words.proofs.linearize.Goals as goal

pub returns-then-crowded : goal.returns-then-crowded
returns-then-crowded c = search (rules, linearize_laws)

pub returns : goal.returns
returns c = search (rules, linearize_laws)
