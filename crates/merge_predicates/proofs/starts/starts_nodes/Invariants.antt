-- `merge_predicates::starts::starts_nodes` meets its contract: from each turn on, the definition goes on to the same
-- sum.
use mathlib.Core.Path.{◌≡◌}
use Prim.Native.Nat.{◌-◌}
use Rattle.merge_predicates.specs.Starts.{add_starts}
use Rattle.merge_predicates.proofs.starts.starts_nodes.Given as goal

abbrev pub invariant-loop : goal.invariant-loop
invariant-loop l = add_starts l.t l.place (l.end - l.counter) l.nodes ≡ add_starts l.t l.initial.place l.end l.sum
