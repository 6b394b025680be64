-- Rows 50 and 51 from the words of variables, three each. On the words of a model's variables they are `is_beyond` of
-- an owner and `writes_foreign`: the laws beyond_is and foreign_is.
use Rattle.std.specs.Prelude.{ℕ, ◌+◌, ◌*◌, ◌/◌, Bool, not, ◌&&◌, List, length, get_or, eqb, ltb}
use Rattle.model.specs.Basic.{exists, count_up}
use Rattle.model.specs.Bounds.{max_variables}
use Rattle.model.specs.Table.{bit}

-- the owner's word of variable k
unfoldable pub owner_in : (variables : List ℕ) (k : ℕ) → ℕ
owner_in variables k = get_or variables (3 * k + 2) 0

unfoldable pub is_beyond_at : (variables : List ℕ) (n k : ℕ) → Bool
is_beyond_at variables n k = ltb n (owner_in variables k)

unfoldable pub beyond_in : (variables : List ℕ) (n : ℕ) → Bool
beyond_in variables n = exists (is_beyond_at variables n) (count_up 0 (length variables / 3))

-- variable k is not in the set `rest`, and not owned by the last of n automata
unfoldable pub is_foreign_at : (variables : List ℕ) (n rest k : ℕ) → Bool
is_foreign_at variables n rest k =
    not (bit rest k) && not (not (eqb (owner_in variables k) 0) && eqb (owner_in variables k) n)

unfoldable pub foreign_in : (variables : List ℕ) (n rest : ℕ) → Bool
foreign_in variables n rest = exists (is_foreign_at variables n rest) (count_up 0 max_variables)
