-- `merge_distinct::copying::automaton` meets its contract.
use Rattle.merge_distinct.proofs.CopyingLaws.{automaton_is}
use borrow.Author.Rules.{rules}
use Rattle.merge_distinct.proofs.copying.automaton.Goals as goal

pub returns : goal.returns
returns c = search (rules, automaton_is)
