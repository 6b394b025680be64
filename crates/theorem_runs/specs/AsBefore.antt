-- What a merged sheet allows does not change when equal edges stand once: AsBefore compares it with the merged sheet in
-- which they stand as often as they come about. The law as_before says that it holds of every sheet within the limits.
use Rattle.std.specs.Prelude.{◌≡◌, Bool, List, ◌↔◌, ℕ, ℤ}
use Rattle.std.proofs.Math.Option.{none}
use Rattle.model.specs.Model.{Model}
use Rattle.model.specs.Rules.{State, Step, Environment}
use Rattle.model.specs.Linear.{linear, merge_fault}
use Rattle.model.specs.Repeats.{linear_with_repeats, fault_with_repeats}

pub record AsBefore (m : Model) : Type 0 where
  -- a sheet that the rows let pass when they counted repeats, they let pass now
  pub merges : fault_with_repeats m ≡ none → merge_fault m ≡ none
  -- from every state to every other, under every action and with the same mark
  pub steps : (s : State) (a : ℕ) (t : State) (mark : Bool)
      → Step (linear_with_repeats m) s a t mark ↔ Step (linear m) s a t mark
  -- and in environment steps
  pub environments : (s : State) (values : List ℤ)
      → Environment (linear_with_repeats m) s values ↔ Environment (linear m) s values
