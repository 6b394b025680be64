-- `merge_distinct::copying::automata` meets its contract: what is copied and what is left make up the whole.
use Rattle.merge_distinct.proofs.CopyingLaws.{automata_laws}
use Rattle.merge_distinct.specs.Distinct.{automata_words}
use Rattle.merge_append.proofs.Fronts.{front_laws}
use borrow.Author.Rules.{rules}
use Rattle.merge_distinct.proofs.copying.automata.Goals as goal

pub loop-i-init : goal.loop-i-init
loop-i-init c = search (rules, automata_laws, front_laws)

pub loop-i-preserved : goal.loop-i-preserved
loop-i-preserved c = search (rules, automata_laws, front_laws)

pub returns : goal.returns
unfolding automata_words
returns c = search (rules, automata_laws, front_laws)
