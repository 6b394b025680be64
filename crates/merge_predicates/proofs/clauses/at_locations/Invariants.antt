-- `merge_predicates::clauses::at_locations` meets its contract: what is done and what is left make up the whole.
use Prim.Native.Nat.{◌-◌}
use Rattle.merge_append.proofs.AppendLaws.{Underway}
use Rattle.merge_predicates.specs.Clauses.{value_clauses}
use Rattle.merge_predicates.proofs.clauses.at_locations.Given as goal

abbrev pub invariant-loop-j : goal.invariant-loop-j
invariant-loop-j l =
    Underway (value_clauses l.t l.places l.first l.k 0 l.count) l.initial.out
    (value_clauses l.t l.places l.first l.k l.j (l.count - l.j)) l.out
