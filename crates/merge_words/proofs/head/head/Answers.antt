-- `merge_words::head::head` meets its contract: its words, part by part.
use Rattle.merge_words.proofs.HeadLaws.{head_is}
use borrow.Author.Rules.{rules}
use Rattle.merge_words.proofs.head.head.Goals as goal

pub returns : goal.returns
returns c = search (rules, head_is)
