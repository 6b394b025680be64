-- `table_places::starts::start_at` meets its contract: from each turn on, the definition goes on to the same end.
use mathlib.Core.Path.{◌≡◌}
use Prim.Native.Nat.{◌-◌}
use Rattle.table_places.specs.Starts.{start_at}
use Rattle.table_places.proofs.starts.start_at.Given as goal

abbrev pub invariant-loop : goal.invariant-loop
invariant-loop l = start_at l.t l.next (l.k - l.counter) ≡ start_at l.t l.at l.k
