-- `merge_distinct::firsts::gather` meets its contract: what is listed and what is to come make up the whole list.
use Prim.Native.Nat.{◌-◌}
use Rattle.merge_distinct.proofs.FirstsLaws.{Gathering}
use Rattle.merge_distinct.specs.Firsts.{first_ones}
use Rattle.merge_distinct.proofs.firsts.gather.Given as goal

abbrev pub invariant-loop : goal.invariant-loop
invariant-loop l =
    Gathering l.t (first_ones l.t l.edges) l.seen l.firsts (l.count - l.counter) l.place l.n
