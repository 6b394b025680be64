-- Where the P after an `ini` begins and ends, as places in the bytes. What is found so are the P's of the format: the
-- laws next_is, after_is and start_bytes.
use Rattle.std.specs.Prelude.{Option, Some, None}
use Rattle.std.specs.Prelude.{ℕ, zero, suc, ◌+◌, Bool, true, false, ◌||◌, List, [], ◌∷◌, length, drop, leb, pos}
use Rattle.model.specs.Basic.{same}
use Rattle.model.specs.Bounds.{max_operands}
use Rattle.format.specs.Bytes.{Bytes, bytes}
use Rattle.format.specs.Number.{within, natural_of}
use Rattle.format.specs.Tokens.{tokens, find, calls}

-- after this token comes a K
unfoldable pub is_count : Bytes → Bool
is_count t = same t (bytes "all") || same t (bytes "any")

unfoldable pub count_calls : Bytes → ℕ
count_calls t = elim (within (pos 0) (pos max_operands) t) [ true ↦ natural_of t | false ↦ 0 ]

-- how many more tokens a token calls for, which is a K or not
unfoldable pub calls_in : (counts : Bool) → Bytes → ℕ
calls_in true t = count_calls t
calls_in false t = find 0 calls t

-- the tokens that are taken where so many are wanted
unfoldable pub taken : (wanted : ℕ) (counts : Bool) → List Bytes → List Bytes
taken wanted counts [] = []
taken zero counts (t ∷ ts) = []
taken (suc n) counts (t ∷ ts) = t ∷ taken (calls_in counts t + n) (is_count t) ts

-- the bytes of tokens, each with the byte after it
unfoldable pub span : List Bytes → ℕ
span [] = 0
span (t ∷ ts) = length t + 1 + span ts

-- the tokens from a place on; none past the end
unfoldable pub tokens_from : Bytes → ℕ → List Bytes
tokens_from s at = elim (leb at (length s)) [ true ↦ tokens (drop at s) | false ↦ [] ]

unfoldable pub after_start : Bytes → (at : ℕ) → ℕ
after_start s at = at + span (taken 1 false (tokens_from s at))

-- the place after the first `ini` of some tokens, of which the first stands at a place
unfoldable pub start_among : (at : ℕ) → List Bytes → Option ℕ
start_among at [] = None
start_among at (t ∷ ts) =
    elim (same t (bytes "ini")) [ true ↦ Some (at + length t + 1) | false ↦ start_among (at + length t + 1) ts ]

unfoldable pub next_start : Bytes → (from : ℕ) → Option ℕ
next_start s from = start_among from (tokens_from s from)
