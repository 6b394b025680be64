-- `write_words::line::name` meets its contract: the part of the row is the name.
use Rattle.write_words.proofs.LineLaws.{name_grew}
use borrow.Author.Rules.{rules}
use Rattle.write_words.proofs.line.name.Goals as goal

pub returns : goal.returns
returns c = search (rules, name_grew)
