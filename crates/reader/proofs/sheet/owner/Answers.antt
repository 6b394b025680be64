-- `reader::sheet::owner` meets its contract: each way out is a law of SheetLaws.
use Rattle.reader.proofs.SheetLaws.{owner_laws}
use borrow.Author.Rules.{rules}
use Rattle.reader.proofs.sheet.owner.Goals as goal

pub returns-in-Err : goal.returns-in-Err
returns-in-Err c = search (rules, owner_laws)

pub returns-in-Ok : goal.returns-in-Ok
returns-in-Ok c = search (rules, owner_laws)
