-- `merge_distinct::equality::same_words` meets its contract: from each turn on, the definition goes on to the same
-- answer.
use mathlib.Core.Path.{◌≡◌}
use Prim.Native.Nat.{◌-◌}
use Rattle.merge_distinct.specs.Equality.{same_run}
use Rattle.merge_distinct.proofs.equality.same_words.Given as goal

abbrev pub invariant-loop : goal.invariant-loop
invariant-loop l = same_run l.t l.a l.b (l.count - l.counter) ≡ same_run l.t l.at l.other l.count
