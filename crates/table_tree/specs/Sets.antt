-- Sets of actions as words.
use Rattle.std.specs.Prelude.{true, false, List, [], ◌∷◌, ℕ, ◌+◌, ◌*◌, ◌^◌, ltb}

-- the two words of a set as one, of which bit K is set for action K
unfoldable pub one_word : (low high : ℕ) → ℕ
one_word low high = high * 2 ^ 32 + low

-- the set that holds k alone; no word has a bit above 63
unfoldable pub single : ℕ → ℕ
single k = elim (ltb k 64) [ true ↦ 2 ^ k | false ↦ 0 ]

-- how many `ini` a node with this set is
unfoldable pub unfilled : List ℕ → ℕ
unfilled [] = 1
unfilled (k ∷ ks) = 0
