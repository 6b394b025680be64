-- A number, as far as there can be so many.
use Rattle.std.specs.Prelude.{true, false, ℕ, leb}

unfoldable pub at_most : (most n : ℕ) → ℕ
at_most most n = elim (leb n most) [ true ↦ n | false ↦ most ]
