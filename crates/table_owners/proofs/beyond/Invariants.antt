-- `table_owners::beyond` meets its contract: the numbers that are left give the rest of the answer.
use Rattle.table_owners.proofs.CodeLaws.{Going}
use Prim.Native.Nat.{◌/◌}
use lib.ListN.{length}
use Rattle.table_owners.specs.Owners.{is_beyond_at, beyond_in}
use Rattle.table_owners.proofs.beyond.Given as goal

abbrev pub invariant-loop-k : goal.invariant-loop-k
invariant-loop-k l = Going (is_beyond_at l.variables l.n) (beyond_in l.variables l.n) (length l.variables / 3) l.k
