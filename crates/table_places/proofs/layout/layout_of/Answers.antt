-- `table_places::layout::layout_of` meets its contract: the parts of the automata before k are noted.
use Rattle.table_places.proofs.LayoutLaws.{laying_laws}
use borrow.Author.Rules.{rules}
use Rattle.table_places.proofs.layout.layout_of.Goals as goal

pub loop-k-init : goal.loop-k-init
loop-k-init c = search (rules, laying_laws)

pub loop-k-preserved : goal.loop-k-preserved
loop-k-preserved c = search (rules, laying_laws)
