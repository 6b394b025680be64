-- `merge_takers::moves::under` meets its contract: from each turn on, the definition goes on to the same sum.
use mathlib.Core.Path.{◌≡◌}
use Prim.Native.Nat.{◌-◌}
use Rattle.merge_takers.specs.Moves.{under_from}
use Rattle.merge_takers.proofs.moves.under.Given as goal

abbrev pub invariant-loop : goal.invariant-loop
invariant-loop l =
    under_from l.t l.action (l.count - l.counter) l.place l.sum ≡ under_from l.t l.action l.count l.first 0
