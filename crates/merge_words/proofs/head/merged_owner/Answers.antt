-- `merge_words::head::merged_owner` meets its contract: each way out is a law of HeadLaws.
use Rattle.merge_words.proofs.HeadLaws.{owner_laws}
use borrow.Author.Rules.{rules}
use Rattle.merge_words.proofs.head.merged_owner.Goals as goal

pub returns-then-owner-eq0 : goal.returns-then-owner-eq0
returns-then-owner-eq0 c = search (rules, owner_laws)

pub returns-else-owner-eq0 : goal.returns-else-owner-eq0
returns-else-owner-eq0 c = search (rules, owner_laws)
