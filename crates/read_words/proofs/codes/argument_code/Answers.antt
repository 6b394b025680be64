use Rattle.read_words.proofs.CodeLaws.{argument_laws}
use borrow.Author.Rules.{rules}
use Rattle.read_words.proofs.codes.argument_code.Goals as goal

pub returns-in-Some : goal.returns-in-Some
returns-in-Some c = search (rules, argument_laws)
