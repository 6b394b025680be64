-- `table_places::layout::layout_of` meets its contract: the parts of the automata before k are noted.
use Rattle.table_places.proofs.LayoutLaws.{Laying}
use Rattle.table_places.proofs.layout.layout_of.Given as goal

abbrev pub invariant-loop-k : goal.invariant-loop-k
invariant-loop-k l = Laying l.t l.count l.k l.at l.sets l.edges
