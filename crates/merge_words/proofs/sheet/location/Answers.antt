-- `merge_words::sheet::location` meets its contract: its words, part by part.
use Rattle.merge_words.proofs.SheetLaws.{location_is}
use borrow.Author.Rules.{rules}
use Rattle.merge_words.proofs.sheet.location.Goals as goal

pub returns : goal.returns
returns c = search (rules, location_is)
