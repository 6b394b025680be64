-- `write_words::deliver` meets its contract: each way out is a law of SheetLaws.
use Rattle.write_words.proofs.SheetLaws.{deliver_laws}
use borrow.Author.Rules.{rules}
use Rattle.write_words.proofs.deliver.Goals as goal

pub returns-in_default : goal.returns-in_default
returns-in_default c = search (rules, deliver_laws)

pub returns-then-out-n : goal.returns-then-out-n
returns-then-out-n c = search (rules, deliver_laws)

pub returns : goal.returns
returns c = search (rules, deliver_laws)
