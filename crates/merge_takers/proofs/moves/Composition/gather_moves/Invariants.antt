-- `merge_takers::moves::Composition::gather_moves` meets its contract: what is done and what is left make up the whole.
use Prim.Native.Nat.{◌-◌}
use Rattle.merge_append.proofs.AppendLaws.{Underway}
use Rattle.merge_takers.specs.Gather.{takers_from}
use Rattle.merge_takers.proofs.moves.Composition.gather_moves.Given as goal

abbrev pub invariant-loop-k : goal.invariant-loop-k
invariant-loop-k l =
    Underway (takers_from l.self.words.now l.self.layout l.cells l.action 0 l.count) l.initial.list
    (takers_from l.self.words.now l.self.layout l.cells l.action l.k (l.count - l.k)) l.list
