-- `merge_takers::moves::Composition::gather_all` meets its contract: what is done and what is left make up the whole.
use Prim.Native.Nat.{◌+◌, ◌-◌}
use Rattle.merge_append.proofs.AppendLaws.{Underway}
use Rattle.merge_takers.specs.Gather.{takers_of, takers_in}
use Rattle.merge_takers.proofs.moves.Composition.gather_all.Given as goal

abbrev pub invariant-loop-action : goal.invariant-loop-action
invariant-loop-action l =
    Underway (takers_in l.self.words.now l.self.layout l.self.own.now) l.initial.list
    (takers_of l.self.words.now l.self.layout l.self.own.now l.action (l.action-end + 1 - l.action)) l.list
