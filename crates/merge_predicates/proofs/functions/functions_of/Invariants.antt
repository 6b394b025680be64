-- `merge_predicates::functions::functions_of` meets its contract: what is gathered and what is left make up the whole.
use Rattle.merge_predicates.proofs.FunctionLaws.{Gathering}
use Rattle.merge_predicates.proofs.functions.functions_of.Given as goal

abbrev pub invariant-loop-i : goal.invariant-loop-i
invariant-loop-i l = Gathering l.t l.inv l.fn.x.sets l.count l.i l.total l.domains l.places
