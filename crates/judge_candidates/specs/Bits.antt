-- Sets of variables and of automata as words, as the code makes them.
use Rattle.std.specs.Prelude.{Bool, true, false, not, List, ℕ, ◌+◌, ◌^◌, ℤ, pos, length, get_or, eqb}
use Rattle.model.specs.Basic.{eq_z}
use Rattle.model.specs.Bounds.{max_variables, max_automata}
use Rattle.table_writes.specs.Sets.{mask}
use Rattle.table_places.specs.AtMost.{at_most}

-- k put into a set that has only smaller numbers, if the test says so
unfoldable pub with_bit : (set k : ℕ) → Bool → ℕ
with_bit set k b = elim b [ true ↦ 2 ^ k + set | false ↦ set ]

-- the variables whose values differ, and the automata that keep their location
unfoldable pub differs : (before after : List ℤ) → ℕ → Bool
differs before after k = not (eq_z (get_or before k (pos 0)) (get_or after k (pos 0)))

unfoldable pub changed_bits : (before after : List ℤ) → ℕ
changed_bits before after = mask (differs before after) (at_most max_variables (length before))

unfoldable pub agrees : (old new : List ℕ) → ℕ → Bool
agrees old new k = eqb (get_or old k 0) (get_or new k 0)

unfoldable pub still_bits : (old new : List ℕ) → ℕ
still_bits old new = mask (agrees old new) (at_most max_automata (length old))
