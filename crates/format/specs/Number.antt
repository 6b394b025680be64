-- "The sheet text": how numbers are spelled. Each has one spelling: 0 starts no longer number, and -0 is none.
use Rattle.std.specs.Prelude.{ℕ, zero, suc, ◌+◌, ◌-◌, ◌*◌, ◌/◌, ◌%◌, Bool, true, false, ◌&&◌, [], ◌∷◌, ◌++◌, ℤ}
use Rattle.std.specs.Prelude.{pos, negsuc, eqb, leb, ltb}
use Rattle.std.proofs.Math.Option.{Option, none, some}
use Rattle.model.specs.Basic.{between, or_else}
use Rattle.format.specs.Bytes.{Bytes, '0, '9, minus}

unfoldable pub digit : ℕ → Bool
digit b = leb '0 b && leb b '9

-- the number that digits go on to from n
unfoldable pub digits : ℕ → Bytes → Option ℕ
digits n [] = some n
digits n (b ∷ t) = elim (digit b) [ true ↦ digits (n * 10 + (b - '0)) t | false ↦ none ]

-- several digits do not start with 0
unfoldable pub natural : Bytes → Option ℕ
natural [] = none
natural (b ∷ []) = digits 0 (b ∷ [])
natural (b ∷ c ∷ t) = elim (eqb b '0) [ true ↦ none | false ↦ digits 0 (b ∷ c ∷ t) ]

unfoldable pub unsigned : Option ℕ → Option ℤ
unsigned none = none
unsigned (some n) = some (pos n)

-- what stands after a minus
unfoldable pub negative : Option ℕ → Option ℤ
negative none = none
negative (some zero) = none
negative (some (suc n)) = some (negsuc n)

unfoldable pub number : Bytes → Option ℤ
number [] = none
number (b ∷ t) = elim (eqb b minus) [ true ↦ negative (natural t) | false ↦ unsigned (natural (b ∷ t)) ]

-- row 3: a number, and from low to high
unfoldable pub is_between : ℤ → ℤ → Option ℤ → Bool
is_between low high none = false
is_between low high (some z) = between low high z

unfoldable pub within : ℤ → ℤ → Bytes → Bool
within low high s = is_between low high (number s)

-- the value of what is known to be a number
unfoldable pub natural_of : Bytes → ℕ
natural_of s = or_else 0 (natural s)

unfoldable pub integer_of : Bytes → ℤ
integer_of s = or_else (pos 0) (number s)

-- the one spelling of a number: with fuel for its digits
unfoldable pub decimal_in : ℕ → ℕ → Bytes
decimal_in zero n = []
decimal_in (suc k) n =
    elim (ltb n 10) [ true ↦ ('0 + n) ∷ [] | false ↦ decimal_in k (n / 10) ++ ('0 + n % 10) ∷ [] ]

unfoldable pub decimal : ℕ → Bytes
decimal n = decimal_in (suc n) n

unfoldable pub signed : ℤ → Bytes
signed (pos n) = decimal n
signed (negsuc n) = minus ∷ decimal (suc n)
