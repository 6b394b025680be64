-- `merge_words::sheet::automaton` meets its contract: its words, part by part.
use Rattle.merge_words.proofs.SheetLaws.{automaton_is}
use borrow.Author.Rules.{rules}
use Rattle.merge_words.proofs.sheet.automaton.Goals as goal

pub returns : goal.returns
returns c = search (rules, automaton_is)
