-- `merge_words::head::last_location` meets its contract.
use Rattle.merge_words.proofs.HeadLaws.{last_is}
use borrow.Author.Rules.{rules}
use Rattle.merge_words.proofs.head.last_location.Goals as goal

pub returns : goal.returns
returns c = search (rules, last_is)
