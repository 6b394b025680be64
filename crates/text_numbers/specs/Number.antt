-- Numbers in a range, as the code answers them.
use Rattle.std.specs.Prelude as P
use Rattle.std.specs.Prelude.{ℕ, zero, suc, true, false, List, ℤ, pos, negsuc, leb, Some, None}
use Rattle.std.proofs.Math.Option.{Option, none, some}
use Rattle.model.specs.Basic.{between}
use Rattle.format.specs.Number.{within, natural_of, integer_of}

-- what `natural` and `integer` answer
unfoldable pub natural_in : List ℕ → ℕ → P.Option ℕ
natural_in s high = elim (within (pos 0) (pos high) s) [ true ↦ Some (natural_of s) | false ↦ None ]

unfoldable pub integer_in : List ℕ → ℤ → ℤ → P.Option ℤ
integer_in s low high = elim (within low high s) [ true ↦ Some (integer_of s) | false ↦ None ]

-- the steps: a number, if it is at most high
unfoldable pub up_to : ℕ → Option ℕ → P.Option ℕ
up_to high none = None
up_to high (some n) = elim (leb n high) [ true ↦ Some n | false ↦ None ]

-- z, if it is from low to high
unfoldable pub kept : ℤ → ℤ → ℤ → P.Option ℤ
kept low high z = elim (between low high z) [ true ↦ Some z | false ↦ None ]

-- what stands after a minus
unfoldable pub negated : ℤ → ℤ → ℕ → P.Option ℤ
negated low high zero = None
negated low high (suc n) = kept low high (negsuc n)
