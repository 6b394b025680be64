-- `merge_predicates::depth::starts_deep` meets its contract: from each turn on, the definition goes on to the same
-- answer.
use mathlib.Core.Path.{◌≡◌}
use Prim.Native.Nat.{◌-◌}
use Rattle.merge_predicates.specs.Depths.{starts_deeper}
use Rattle.merge_predicates.proofs.depth.starts_deep.Given as goal

abbrev pub invariant-loop : goal.invariant-loop
invariant-loop l = starts_deeper l.t 23 l.place (l.end - l.counter) ≡ starts_deeper l.t 23 l.initial.place l.end
