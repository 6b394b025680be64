-- `table_owners::foreign` meets its contract: the numbers that are left give the rest of the answer.
use Rattle.table_owners.proofs.CodeLaws.{Going}
use Rattle.model.specs.Bounds.{max_variables}
use Rattle.table_owners.specs.Owners.{is_foreign_at, foreign_in}
use Rattle.table_owners.proofs.foreign.Given as goal

abbrev pub invariant-loop-k : goal.invariant-loop-k
invariant-loop-k l = Going (is_foreign_at l.variables l.n l.rest) (foreign_in l.variables l.n l.rest) (max_variables) l.k
