-- `merge_append::append::Filling::copy` meets its contract: what is done and what is left make up the whole.
use Prim.Native.Nat.{◌-◌}
use Rattle.merge_append.proofs.AppendLaws.{Underway}
use Rattle.merge_append.specs.Runs.{run}
use Rattle.merge_append.proofs.append.Filling.copy.Given as goal

abbrev pub invariant-loop : goal.invariant-loop
invariant-loop l = Underway (run l.t l.from l.count) l.initial.self (run l.t l.place (l.count - l.counter)) l.self
