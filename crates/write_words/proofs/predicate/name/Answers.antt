-- `write_words::predicate::name` meets its contract: the part of the row is the name.
use Rattle.write_words.proofs.WordLaws.{name_grew}
use borrow.Author.Rules.{rules}
use Rattle.write_words.proofs.predicate.name.Goals as goal

pub returns : goal.returns
returns c = search (rules, name_grew)
