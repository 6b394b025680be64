-- `write_words::sheet::spell` meets its contract: each way out is a law of SheetLaws.
use Rattle.write_words.proofs.SheetLaws.{spell_laws}
use borrow.Author.Rules.{rules}
use Rattle.write_words.proofs.sheet.spell.Goals as goal

pub returns-in_err-n : goal.returns-in_err-n
returns-in_err-n c = search (rules, spell_laws, c.in_err-n.was)

pub returns-then-n-text : goal.returns-then-n-text
returns-then-n-text c = search (rules, spell_laws, c.in_ok-n.was)

pub returns-else-n-text : goal.returns-else-n-text
returns-else-n-text c = search (rules, spell_laws, c.in_ok-n.was)
