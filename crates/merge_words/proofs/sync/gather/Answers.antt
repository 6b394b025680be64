-- `merge_words::sync::gather` meets its contract.
use Rattle.merge_words.proofs.SyncLaws.{gather_is}
use borrow.Author.Rules.{rules}
use Rattle.merge_words.proofs.sync.gather.Goals as goal

pub returns : goal.returns
returns c = search (rules, gather_is)
