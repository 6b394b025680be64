-- `merge_edges::edges::all_edges` meets its contract: what is done and what is left make up the whole.
use Prim.Native.Nat.{◌-◌}
use Rattle.merge_append.proofs.AppendLaws.{Underway}
use Rattle.merge_edges.specs.Edges.{edges_from}
use Rattle.merge_edges.proofs.edges.all_edges.Given as goal

abbrev pub invariant-loop : goal.invariant-loop
invariant-loop l =
    Underway (edges_from l.t l.variables l.list 0 l.count) l.initial.out
    (edges_from l.t l.variables l.list l.place (l.count - l.counter)) l.out
