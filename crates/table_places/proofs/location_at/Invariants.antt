-- `table_places::location_at` meets its contract: from each turn on, the definition goes on to the same end.
use mathlib.Core.Path.{◌≡◌}
use Prim.Native.Nat.{◌-◌}
use Rattle.table_places.specs.Outline.{location_at}
use Rattle.table_places.proofs.location_at.Given as goal

abbrev pub invariant-loop : goal.invariant-loop
invariant-loop l = location_at l.t l.next (l.j - l.counter) ≡ location_at l.t l.at l.j
