-- `merge_takers::moves::Composition::all_moves` meets its contract: from each turn on, the definition goes on to the
-- same sum.
use mathlib.Core.Path.{◌≡◌}
use Prim.Native.Nat.{◌+◌, ◌-◌}
use Rattle.merge_takers.specs.Moves.{moves_of, moves_in}
use Rattle.merge_takers.proofs.moves.Composition.all_moves.Given as goal

abbrev pub invariant-loop-action : goal.invariant-loop-action
invariant-loop-action l =
    moves_of l.self.words.now l.self.layout l.self.own.now l.action
    (l.action-end + 1 - l.action) l.sum ≡ moves_in l.self.words.now l.self.layout l.self.own.now
