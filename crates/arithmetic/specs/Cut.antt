-- What the arithmetic does with a number that an i64 does not hold. No checked predicate has one.
use Rattle.std.specs.Prelude.{cond, ℤ, pos, negsuc}
use Rattle.std.specs.Int.Signed.{lt_z}

-- the ends of an i64's range
abbrev pub least_held : ℤ
least_held = negsuc 9223372036854775807

abbrev pub greatest_held : ℤ
greatest_held = pos 9223372036854775807

-- the number nearest to x that an i64 holds
unfoldable pub cut : ℤ → ℤ
cut x = cond (lt_z x least_held) least_held (cond (lt_z greatest_held x) greatest_held x)
