-- `reader::sheet::list` meets its contract: each way out is a law of SheetLaws.
use Rattle.reader.proofs.SheetLaws.{list_laws}
use borrow.Author.Rules.{rules}
use Rattle.reader.proofs.sheet.list.Goals as goal

pub returns-in-Err : goal.returns-in-Err
returns-in-Err c = search (rules, list_laws)

pub returns-then-writes_others : goal.returns-then-writes_others
returns-then-writes_others c = search (rules, list_laws)

pub returns : goal.returns
returns c = search (rules, list_laws)
