-- A table that is being filled: its words so far, in a buffer of a table's length. Words that find no room are left
-- out; of a sheet within the limits all find room (words_fit), so nothing here needs a bound.
use Rattle.std.specs.Prelude.{ℕ, ◌+◌, true, false, List, [], ◌∷◌, set, leb, ltb}
use Rattle.model.specs.Bounds.{table_words}

-- the place after n more words, or the end
unfoldable pub next_place : (at n : ℕ) → ℕ
next_place at n = elim (leb (at + n) table_words) [ true ↦ at + n | false ↦ table_words ]

-- the buffer after `new` was put into it from `at` on, as far as there is room
unfoldable pub put : (at : ℕ) (new old : List ℕ) → List ℕ
put at [] old = old
put at (w ∷ ws) old = elim (ltb at table_words) [ true ↦ put (at + 1) ws (set old at w) | false ↦ old ]
