-- A test of some numbers in a row, as a loop makes it.
use Rattle.std.specs.Prelude.{Bool, true, false, ℕ, zero, suc}

-- the test holds of the `left` numbers from k on
unfoldable pub each_from : (test : ℕ → Bool) (k left : ℕ) → Bool
each_from test k zero = true
each_from test k (suc left) = elim (test k) [ true ↦ each_from test (suc k) left | false ↦ false ]
