-- What it means to append words to a table that is being filled.
use Rattle.std.specs.Prelude.{◌≡◌, List, map, ℕ, zero, suc, ◌%◌, length}
use Rattle.merge_append.specs.declared.append.Filling.{Filling}
use Rattle.table_append.specs.Append.{next_place, put}

-- a word has 32 bits
unfoldable pub narrow : ℕ → ℕ
narrow w = w % 4294967296

-- the place after n words from `at` on; after none it is where it was
unfoldable pub placed : (at n : ℕ) → ℕ
placed at zero = at
placed at (suc n) = next_place at (suc n)

-- The words stand from `at` on, each as far as it is within the table, and all else is as it was (the law appended_is).
pub record Appended (ws : List ℕ) (at : ℕ) (old new : List ℕ) (r : ℕ) : Type 0 where
  pub next : r ≡ placed at (length ws)
  pub memory : new ≡ put at (map narrow ws) old

-- The same of a table that is being filled: they stand at its end, and its length is the place after them.
pub record Filled (ws : List ℕ) (old new : Filling) : Type 0 where
  pub added : Appended ws old.length old.words new.words new.length
