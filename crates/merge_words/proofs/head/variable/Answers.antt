-- `merge_words::head::variable` meets its contract: its range, and its owner.
use Rattle.merge_words.proofs.HeadLaws.{variable_is}
use borrow.Author.Rules.{rules}
use Rattle.merge_words.proofs.head.variable.Goals as goal

pub returns : goal.returns
returns c = search (rules, variable_is)
