-- `table_places::edge_at` meets its contract: from each turn on, the definition goes on to the same end.
use mathlib.Core.Path.{◌≡◌}
use Prim.Native.Nat.{◌-◌}
use Rattle.table_places.specs.Outline.{edge_at}
use Rattle.table_places.proofs.edge_at.Given as goal

abbrev pub invariant-loop : goal.invariant-loop
invariant-loop l = edge_at l.t l.next (l.k - l.counter) ≡ edge_at l.t l.at l.k
