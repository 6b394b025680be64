-- `merge_words::head::pointer_owner` meets its contract: each way out is a law of HeadLaws.
use Rattle.merge_words.proofs.HeadLaws.{owner_laws}
use borrow.Author.Rules.{rules}
use Rattle.merge_words.proofs.head.pointer_owner.Goals as goal

pub returns-then-format-lt-OWNERS_FORMAT : goal.returns-then-format-lt-OWNERS_FORMAT
returns-then-format-lt-OWNERS_FORMAT c = search (rules, owner_laws)

pub returns-else-format-lt-OWNERS_FORMAT : goal.returns-else-format-lt-OWNERS_FORMAT
returns-else-format-lt-OWNERS_FORMAT c = search (rules, owner_laws)
