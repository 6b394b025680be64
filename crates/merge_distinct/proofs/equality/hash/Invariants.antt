-- `merge_distinct::equality::hash` meets its contract: from each turn on, the definition goes on to the same number.
use mathlib.Core.Path.{◌≡◌}
use Prim.Native.Nat.{◌-◌, ◌<◌}
use Rattle.merge_append.specs.Runs.{run}
use Rattle.merge_distinct.specs.Equality.{hash_from, hash_at}
use Rattle.merge_distinct.proofs.equality.hash.Given as goal

abbrev pub invariant-loop : goal.invariant-loop
invariant-loop l =
    (l.sum < 4096) × (hash_from l.sum (run l.t l.place (l.length - l.counter)) ≡ hash_at l.t l.at)
