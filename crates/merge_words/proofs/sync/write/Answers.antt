-- `merge_words::sync::write` meets its contract: one word, then the other.
use Rattle.merge_words.proofs.SyncLaws.{write_is}
use borrow.Author.Rules.{rules}
use Rattle.merge_words.proofs.sync.write.Goals as goal

pub returns : goal.returns
returns c = search (rules, write_is)
