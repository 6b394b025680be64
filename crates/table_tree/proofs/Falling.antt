-- A walk by steps, each of which hands on fewer nodes than it has left. The definitions also bound how deep its calls
-- nest, so that they can be seen to end; as many levels as there are nodes left are enough, and so the walk is a step of
-- itself.
use mathlib.Core.Path.{◌≡◌, sym, ◌∙◌}
use Prim.Native.Nat.{ℕ, zero, suc, ◌≤◌}
use native.Mathlib.Omega.{arith}

-- The walk W with so many levels, `none` where no level is left; `Fair` is what a step needs of the walk below it.
module _ {B : Type 0} (none : ℕ → B) (step : (ℕ → B) → ℕ → B) (W : ℕ → ℕ → B) (Fair : (ℕ → B) → Type 0)
    (first : (left : ℕ) → W 0 left ≡ none left) (later : (d left : ℕ) → W (suc d) left ≡ step (W d) left)
    (fair : (d : ℕ) → Fair (W d)) (stops : (R : ℕ → B) → step R 0 ≡ none 0)
    (same : (R S : ℕ → B) (n : ℕ) → Fair R → ((left : ℕ) → left ≤ n → R left ≡ S left) → step R (suc n) ≡ step S (suc n)) where
  spent : (d : ℕ) → W d 0 ≡ none 0
  spent zero = first 0
  spent (suc d) = later d 0 ∙ stops (W d)

  pub levels_enough : (d e left : ℕ) → left ≤ d → left ≤ e → W d left ≡ W e left
  levels_enough zero e zero h k = spent 0 ∙ sym (spent e)
  levels_enough zero e (suc n) h k = absurd (omega arith)
  levels_enough (suc d) zero zero h k = spent (suc d) ∙ sym (spent 0)
  levels_enough (suc d) zero (suc n) h k = absurd (omega arith)
  levels_enough (suc d) (suc e) zero h k = spent (suc d) ∙ sym (spent (suc e))
  levels_enough (suc d) (suc e) (suc n) h k =
      later d (suc n)
      ∙ same (W d) (W e) n (fair d) (λ l i. levels_enough d e l (omega arith) (omega arith))
      ∙ sym (later e (suc n))

  pub walk_is : (left : ℕ) → W left left ≡ step (λ l. W l l) left
  walk_is zero = spent 0 ∙ sym (stops (λ l. W l l))
  walk_is (suc n) = later n (suc n) ∙ same (W n) (λ l. W l l) n (fair n) (λ l i. levels_enough n l l i (omega arith))
