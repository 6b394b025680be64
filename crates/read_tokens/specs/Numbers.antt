-- Row 3 over tokens, with only the kind of the token before. It is `sounds` of the text: the law sounds_after_lem.
use Rattle.std.specs.Prelude.{Bool, true, false, List, [], ◌∷◌, ℤ, pos}
use Rattle.model.specs.Basic.{every, same}
use Rattle.model.specs.Bounds.{max_actions, max_operands, least_number, greatest_number}
use Rattle.format.specs.Bytes.{Bytes, bytes, parts, comma}
use Rattle.format.specs.Number.{within}
use Rattle.format.specs.Tokens.{Numeral, unjudged, bare, lettered, numeral, last_after}
use Rattle.read_tokens.specs.declared.numbers.Before.{Before}
use Rattle.read_tokens.specs.declared.numbers.Before.TheVariants.{Count, Items, Other}

-- the kind of a token, for the number in the token after it
unfoldable pub before_of : Bytes → Before
before_of t =
    elim (same t (bytes "all")) [
      | true ↦ Count
      | false ↦ elim (same t (bytes "any")) [
        | true ↦ Count
        | false ↦ elim (same t (bytes "syn")) [ true ↦ Items | false ↦ Other ]
      ]
    ]

-- a number as its kind asks: an operand count, a list of actions, or from low to high
unfoldable pub judged : Before → Bytes → (low high : ℤ) → Bool
judged Count s low high = within (pos 0) (pos max_operands) s
judged Items s low high = every (within (pos 0) (pos max_actions)) (parts comma s)
judged Other s low high = within low high s

unfoldable pub sound_as : Before → Numeral → Bool
sound_as before unjudged = true
sound_as before (bare s) = judged before s least_number greatest_number
sound_as before (lettered b s) = judged before s (pos 0) (last_after b)

unfoldable pub sound_after : Before → Bytes → Bool
sound_after before t = sound_as before (numeral t)

unfoldable pub sounds_after : Before → List Bytes → Bool
sounds_after before [] = true
sounds_after before (t ∷ ts) = elim (sound_after before t) [ true ↦ sounds_after (before_of t) ts | false ↦ false ]
