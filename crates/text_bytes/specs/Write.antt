-- What a write leaves.
use Rattle.std.specs.Prelude.{ℕ, ◌+◌, ◌≤◌, ◌≡◌, Bool, true, false, List, ◌++◌, length, take, drop, leb}
use Rattle.std.specs.Prelude.{Option, Some, None}
use Rattle.text_bytes.specs.declared.write.Spelled.{Spelled}

-- do the bytes t fit from `at` on?
unfoldable pub fits : List ℕ → ℕ → List ℕ → Bool
fits t at old = leb (at + length t) (length old)

-- the answer, and the memory afterwards: t in its place and the rest as it was; or all as it was
unfoldable pub written_to : List ℕ → ℕ → List ℕ → Option ℕ
written_to t at old = elim (fits t at old) [ true ↦ Some (at + length t) | false ↦ None ]

unfoldable pub after : List ℕ → ℕ → List ℕ → List ℕ
after t at old = elim (fits t at old) [ true ↦ take at old ++ t ++ drop (at + length t) old | false ↦ old ]

pub record Wrote (t : List ℕ) (at : ℕ) (old new : List ℕ) (r : Option ℕ) : Type 0 where
  pub answer : r ≡ written_to t at old
  pub memory : new ≡ after t at old
  pub long : length new ≡ length old

-- the bytes from the place on are t, and there is room for `spare` more before them
pub record Spells (spare : ℕ) (t : List ℕ) (r : Spelled) : Type 0 where
  pub text : drop r.from r.bytes ≡ t
  pub room : spare ≤ r.from
  pub inside : r.from ≤ 11
  pub long : length r.bytes ≡ 11
