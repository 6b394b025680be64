-- `merge_edges::edge::pointer_moves` meets its contract: what is done and what is left make up the whole.
use lib.ListN.{drop}
use Rattle.merge_append.proofs.AppendLaws.{Underway}
use Rattle.merge_edges.specs.Edge.{moves_at}
use Rattle.merge_edges.proofs.edge.pointer_moves.Given as goal

abbrev pub invariant-loop-i : goal.invariant-loop-i
invariant-loop-i l =
    Underway (moves_at l.t l.variables 0 l.place-items) l.initial.out
    (moves_at l.t l.variables l.i (drop l.i l.place-items)) l.out
