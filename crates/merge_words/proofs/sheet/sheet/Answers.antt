-- `merge_words::sheet::sheet` meets its contract: its words, part by part.
use Rattle.merge_words.proofs.SheetLaws.{sheet_is}
use borrow.Author.Rules.{rules}
use Rattle.merge_words.proofs.sheet.sheet.Goals as goal

pub returns : goal.returns
returns c = search (rules, sheet_is)
