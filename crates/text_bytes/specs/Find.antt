-- Where a byte stands first, and how often.
use Rattle.std.specs.Prelude.{ℕ, suc, ◌+◌, true, false, List, [], ◌∷◌, length, drop, eqb, leb}

-- how many bytes stand before the first c: all of them, if there is none
unfoldable pub gap : ℕ → List ℕ → ℕ
gap c [] = 0
gap c (b ∷ t) = elim (eqb b c) [ true ↦ 0 | false ↦ suc (gap c t) ]

-- the place of the first c from `at` on, or the length
unfoldable pub first_from : List ℕ → ℕ → ℕ → ℕ
first_from s at c = elim (leb at (length s)) [ true ↦ at + gap c (drop at s) | false ↦ length s ]

-- how many c there are
unfoldable pub tally : ℕ → ℕ → ℕ
tally c b = elim (eqb b c) [ true ↦ 1 | false ↦ 0 ]

unfoldable pub count_of : ℕ → List ℕ → ℕ
count_of c [] = 0
count_of c (b ∷ t) = tally c b + count_of c t
