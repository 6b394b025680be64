-- `merge_words::sync::shifted` meets its contract.
use Rattle.merge_words.proofs.SyncLaws.{shifted_is}
use borrow.Author.Rules.{rules}
use Rattle.merge_words.proofs.sync.shifted.Goals as goal

pub returns : goal.returns
returns c = search (rules, shifted_is)
