-- Demand 1: every call answers, and leaves in lent memory exactly what it is to.
use Prim.Native.Nat.{ℕ}
use mathlib.Core.Path.{◌≡◌, refl, sym, ◌∙◌}
use mathlib.Core.Bool.{Bool, true, false, true≢false}
use mathlib.Core.List.{List}
use mathlib.Core.Logic.{◌↔◌}
use Rattle.model.specs.Table.{row19}
use Rattle.format.specs.Reader.{GivenBy}
use Rattle.format.proofs.Given.{given_by_text}
use Rattle.theorem_demands.specs.Calls.{EveryCallAnswers}
use Rattle.theorem_demands.proofs.Reading.{read_call}
use Rattle.theorem_demands.proofs.Writing.{write_call, merge_call}
use Rattle.theorem_demands.proofs.TextToText.{text_call, refusal_printed}
use Rattle.theorem_demands.proofs.Judging.{step_call, change_call}

not_given : (t : List ℕ) → (row19 t ≡ true) ↔ (GivenBy t → ⊥)
not_given t = (λ h g. true≢false (sym h ∙ (given_by_text t).1 g), back (row19 t) refl)
  where
    back : (b : Bool) → row19 t ≡ b → (GivenBy t → ⊥) → row19 t ≡ true
    back true e n = e
    back false e n = absurd (n ((given_by_text t).0 e))

pub demand_1 : EveryCallAnswers
demand_1 = record {
  reads = read_call;
  writes = write_call;
  merges = merge_call;
  linearizes = text_call;
  prints = refusal_printed;
  judges_steps = step_call;
  judges_environment = change_call;
  row_19 = not_given;
}
