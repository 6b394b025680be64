-- `merge_takers::taking::find` meets its contract: from each turn on, the definition goes on to the same place.
use mathlib.Core.Path.{◌≡◌}
use Prim.Native.Nat.{◌-◌}
use Rattle.merge_takers.specs.Taking.{edge_under}
use Rattle.merge_takers.proofs.taking.find.Given as goal

abbrev pub invariant-loop : goal.invariant-loop
invariant-loop l =
    edge_under l.t l.action l.skip (l.count - l.counter) l.place ≡ edge_under l.t l.action l.j l.count l.first
