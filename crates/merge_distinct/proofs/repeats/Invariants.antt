-- `merge_distinct::repeats` meets its contract: from each turn on, the definition goes on to the same answer.
use mathlib.Core.Path.{◌≡◌}
use Prim.Native.Nat.{◌-◌}
use Rattle.merge_distinct.specs.Distinct.{repeats_from}
use Rattle.merge_distinct.proofs.repeats.Given as goal

abbrev pub invariant-loop-edges : goal.invariant-loop-edges
invariant-loop-edges l =
    repeats_from l.t l.fn.x.edges l.edges-index (l.count - l.edges-index) ≡ repeats_from l.t l.fn.x.edges 0 l.count
