-- `merge_predicates::starts::copied` meets its contract: what is done and what is left make up the whole.
use Prim.Native.Nat.{◌-◌}
use Rattle.merge_append.proofs.AppendLaws.{Underway}
use Rattle.merge_predicates.specs.Starts.{start_nodes_at}
use Rattle.merge_predicates.proofs.starts.copied.Given as goal

abbrev pub invariant-loop : goal.invariant-loop
invariant-loop l =
    Underway (start_nodes_at l.t l.initial.place l.end) l.initial.out
    (start_nodes_at l.t l.place (l.end - l.counter)) l.out
