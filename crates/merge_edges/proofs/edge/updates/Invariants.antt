-- `merge_edges::edge::updates` meets its contract: what is done and what is left make up the whole.
use lib.ListN.{drop}
use Rattle.merge_append.proofs.AppendLaws.{Underway}
use Rattle.merge_edges.specs.Edge.{updates_at}
use Rattle.merge_edges.proofs.edge.updates.Given as goal

abbrev pub invariant-loop-place : goal.invariant-loop-place
invariant-loop-place l =
    Underway (updates_at l.t l.place-items) l.initial.out
    (updates_at l.t (drop l.place-index l.place-items)) l.out
