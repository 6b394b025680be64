-- `merge_predicates::clauses::at_automata` meets its contract: what is done and what is left make up the whole.
use Prim.Native.Nat.{◌-◌}
use Rattle.merge_append.proofs.AppendLaws.{Underway}
use Rattle.merge_predicates.specs.Clauses.{function_clauses}
use Rattle.merge_predicates.proofs.clauses.at_automata.Given as goal

abbrev pub invariant-loop-i : goal.invariant-loop-i
invariant-loop-i l =
    Underway (function_clauses l.t l.f.domains l.f.places l.x.variables 0 l.count 0) l.initial.out
    (function_clauses l.t l.f.domains l.f.places l.x.variables l.i (l.count - l.i) l.first) l.out
