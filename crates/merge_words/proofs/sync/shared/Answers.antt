-- `merge_words::sync::shared` meets its contract: each way out is a law.
use Rattle.merge_words.proofs.SyncLaws.{shared_laws}
use borrow.Author.Rules.{rules}
use Rattle.merge_words.proofs.sync.shared.Goals as goal

pub returns-then-action-eq0 : goal.returns-then-action-eq0
returns-then-action-eq0 c = search (rules, shared_laws)

pub returns-then-x-index : goal.returns-then-x-index
returns-then-x-index c = search (rules, shared_laws)

pub returns : goal.returns
returns c = search (rules, shared_laws)
