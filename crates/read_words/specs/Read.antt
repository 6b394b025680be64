-- The words of the tokens as codes, what `read` answers of them and what it leaves. Where row 3 is not broken they are
-- the codes of `read_words`, up to the first stray one: the laws read_all_words, read_stray_word and never_full.
use Rattle.std.specs.Prelude.{ℕ, ◌≡◌, Bool, true, false, List, [], ◌∷◌, ◌++◌, length, take, drop, leb, ltb}
use Rattle.model.specs.Basic.{same}
use Rattle.format.specs.Bytes.{Bytes, bytes}
use Rattle.format.specs.Tokens.{tokens}
use Rattle.text_bytes.specs.Find.{gap}
use Rattle.read_words.specs.declared.reading.Due.{Due}
use Rattle.read_words.specs.declared.reading.Due.TheVariants.{Word, AllCount, AnyCount}
use Rattle.read_words.specs.declared.reading.WordsError.{WordsError}
use Rattle.read_words.specs.declared.reading.WordsError.TheVariants.{Stray, Full}
use Rattle.std.specs.Prelude.{Result, Ok, Err}
use Rattle.read_words.specs.declared.codes.Numbered.TheVariants as N
use Rattle.read_words.specs.Codes.{stray_code, word_code, count_code}

unfoldable pub is_word : Due → Bool
is_word Word = true
is_word AllCount = false
is_word AnyCount = false

-- what the next token is read as
unfoldable pub due_after : Due → Bytes → Due
due_after Word t =
    elim (same t (bytes "all")) [
      | true ↦ AllCount
      | false ↦ elim (same t (bytes "any")) [ true ↦ AnyCount | false ↦ Word ]
    ]
due_after AllCount t = Word
due_after AnyCount t = Word

unfoldable pub code_as : Due → Bytes → ℕ
code_as Word t = word_code t
code_as AllCount t = count_code N.All t
code_as AnyCount t = count_code N.Any t

-- the codes of the words; an `all` or `any` that ends the tokens spells none
unfoldable pub codes : Due → List Bytes → List ℕ
codes due [] = elim (is_word due) [ true ↦ [] | false ↦ stray_code ∷ [] ]
codes due (t ∷ ts) =
    elim (is_word (due_after due t)) [
      | true ↦ code_as due t ∷ codes (due_after due t) ts
      | false ↦ codes (due_after due t) ts
    ]

-- how many of them come before the first stray one
unfoldable pub count : List ℕ → ℕ
count cs = gap stray_code cs

unfoldable pub answer : List ℕ → (room : ℕ) → Result ℕ WordsError
answer cs room =
    elim (leb (count cs) room) [
      | true ↦ elim (ltb (count cs) (length cs)) [ true ↦ Err Stray | false ↦ Ok (count cs) ]
      | false ↦ Err Full
    ]

-- these stand in the first places, as far as there is room; the rest is as it was
unfoldable pub written : List ℕ → (old : List ℕ) → List ℕ
written cs old = take (length old) (take (count cs) cs) ++ drop (count cs) old

pub record Reads (part old new : List ℕ) (r : Result ℕ WordsError) : Type 0 where
  pub answered : r ≡ answer (codes Word (tokens part)) (length old)
  pub memory : new ≡ written (codes Word (tokens part)) old
  pub long : length new ≡ length old
