-- Steps in format 3 (request (k)): a step changes a variable only if one of the automata that take the action owns
-- it. The law owners_move says that it holds of every sheet within the limits.
use Rattle.std.specs.Prelude.{◌≡◌, Bool, ℕ, ◌≤◌, ◌<◌, length}
use mathlib.Core.List.{Memᴰ}
use Rattle.std.proofs.Math.Option.{some}
use Rattle.model.specs.Bounds.{owners_format}
use Rattle.model.specs.Model.{Model, owner_of}
use Rattle.model.specs.Rules.{State, val, Taker, Step}

pub record OwnersMove (m : Model) : Type 0 where
  pub owned : owners_format ≤ m.format → (s : State) (a : ℕ) (t : State) (mark : Bool) (q : Step m s a t mark)
      → (k : ℕ) → k < length m.variables
      → ((x : Taker) → Memᴰ x q.takers → owner_of m k ≡ some x.automaton → ⊥)
      → val s k ≡ val t k
