-- The synchronising set of the whole, as two words, from the automata's own. A layout says how many actions there are
-- and where the tree stands.
use Rattle.std.specs.Prelude.{Bool, true, false, not, ◌&&◌, List, [], ◌∷◌, ℕ, zero, suc, ◌+◌, ◌*◌, ◌%◌, eqb, leb}
use Rattle.table_tree.specs.Members.{in_set_at}
use Rattle.table_places.specs.declared.layout.Layout.{Layout}
use Rattle.table_places.specs.Outline.{nodes_place}
use Rattle.table_places.specs.Own.{own_sets}
use Rattle.merge_words.specs.declared.sync.Sets.{Sets}

-- is an action, from 1 to A, in the whole's set?
unfoldable pub is_shared : (t : List ℕ) (x : Layout) (own : List ℕ) (action : ℕ) → Bool
is_shared t x own action =
    not (eqb action 0) && leb action x.actions && in_set_at t own action (nodes_place t x.tree)

-- a bit put after the 31 bits of a word
unfoldable pub shifted : (word : ℕ) → Bool → ℕ
shifted word b = elim b [ true ↦ word % 2147483648 * 2 + 1 | false ↦ word % 2147483648 * 2 ]

-- the bits of n actions from one on, the last action's bit the highest, put after the bits of a word
unfoldable pub bits_from : (f : ℕ → Bool) (from n word : ℕ) → ℕ
bits_from f from zero word = word
bits_from f from (suc n) word = bits_from f from n (shifted word (f (from + n)))

-- the automata's own sets, and the whole's
unfoldable pub sets_of : (t : List ℕ) (x : Layout) → Sets
sets_of t x =
    let own = own_sets t x.sets in
    record { own = own; low = bits_from (is_shared t x own) 0 32 0; high = bits_from (is_shared t x own) 32 32 0 }

unfoldable pub words_of : Sets → List ℕ
words_of s = s.low ∷ s.high ∷ []
