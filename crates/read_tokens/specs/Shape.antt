-- Which bytes of a token are judged as a number, as the code answers it.
use Rattle.std.specs.Prelude.{ℕ, Bool, ◌||◌, eqb}
use Rattle.format.specs.Bytes.{Bytes, 'a, 'n, 'v}
use Rattle.format.specs.Tokens.{Numeral, unjudged, bare, lettered, numeral}
use Rattle.read_tokens.specs.declared.tokens.Shape.{Shape}
use Rattle.read_tokens.specs.declared.tokens.Shape.TheVariants.{Bare, Lettered, Plain}

-- a letter that a number may follow
unfoldable pub letter : ℕ → Bool
letter b = eqb b 'v || (eqb b 'n || eqb b 'a)

-- the numeral without its bytes
unfoldable pub shaped : Numeral → Shape
shaped unjudged = Plain
shaped (bare s) = Bare
shaped (lettered b s) = Lettered b

unfoldable pub shape_of : Bytes → Shape
shape_of t = shaped (numeral t)
