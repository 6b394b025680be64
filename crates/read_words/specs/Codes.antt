-- The code of the word that a token spells; that of `stray` if it spells none, or its number is not in its range.
use Rattle.std.specs.Prelude.{ℕ, true, false, pos, eqb}
use Rattle.model.specs.Bounds.{max_operands, last_variable, least_number, greatest_number}
use Rattle.model.specs.Predicate.{Word, all_of, any_of, num_word, old_word, new_word, stray}
use Rattle.model.specs.Table.{code}
use Rattle.format.specs.Bytes.{Bytes, 'n, 'v}
use Rattle.format.specs.Number.{within, natural_of, integer_of}
use Rattle.format.specs.Tokens.{unjudged, bare, lettered, numeral, find, spellings}
use Rattle.read_words.specs.declared.codes.Numbered.{Numbered}
use Rattle.read_words.specs.declared.codes.Numbered.TheVariants.{All, Any, Old, New}

abbrev pub stray_code : ℕ
stray_code = code stray

-- the words that have a number of their own
unfoldable pub word_with : Numbered → ℕ → Word
word_with All = all_of
word_with Any = any_of
word_with Old = old_word
word_with New = new_word

unfoldable pub number_code : Bytes → ℕ
number_code s =
    elim (within least_number greatest_number s) [ true ↦ code (num_word (integer_of s)) | false ↦ stray_code ]

unfoldable pub argument_code : Numbered → (high : ℕ) → Bytes → ℕ
argument_code which high s =
    elim (within (pos 0) (pos high) s) [ true ↦ code (word_with which (natural_of s)) | false ↦ stray_code ]

unfoldable pub variable_code : (letter : ℕ) → Bytes → ℕ
variable_code letter s =
    elim (eqb letter 'v) [
      | true ↦ argument_code Old last_variable s
      | false ↦ elim (eqb letter 'n) [ true ↦ argument_code New last_variable s | false ↦ stray_code ]
    ]

unfoldable pub word_code : Bytes → ℕ
word_code t =
    elim (numeral t) [
      | unjudged ↦ code (find stray spellings t)
      | bare s ↦ number_code s
      | lettered b s ↦ variable_code b s
    ]

-- the K after `all` or `any`, with it
unfoldable pub count_code : Numbered → Bytes → ℕ
count_code which t =
    elim (numeral t) [
      | unjudged ↦ stray_code
      | bare s ↦ argument_code which max_operands s
      | lettered b s ↦ stray_code
    ]
