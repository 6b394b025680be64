-- `merge_append::append::Filling::put_all` meets its contract: what is done and what is left make up the whole.
use lib.ListN.{drop}
use Rattle.merge_append.proofs.AppendLaws.{Underway}
use Rattle.merge_append.proofs.append.Filling.put_all.Given as goal

abbrev pub invariant-loop-x : goal.invariant-loop-x
invariant-loop-x l = Underway l.xs l.initial.self (drop l.x-index l.xs) l.self
