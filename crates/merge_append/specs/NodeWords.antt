-- The words of the nodes that the merged predicates have of their own, and sums that stay within a word. A number that
-- is no sheet's is cut to 32 bits.
use Rattle.std.specs.Prelude.{true, false, ℕ, ◌+◌, leb}
use Rattle.model.specs.Bounds.{bias}
use Rattle.model.specs.Predicate.{imp_word, eq_word}
use Rattle.model.specs.Table.{code}
use Rattle.node_words.specs.declared.Node.TheVariants.{All, Number, Old, New}
use Rattle.node_words.specs.Nodes.{word_for}
use Rattle.merge_append.specs.Append.{narrow}

-- a number from 0 up, moved up by the bias
unfoldable pub upward : ℕ → ℕ
upward z = bias + narrow z

-- `imp` and `eq`; `all K`, a number from 0 up, `vK` and `nK`
abbrev pub imp_node : ℕ
imp_node = code imp_word

abbrev pub eq_node : ℕ
eq_node = code eq_word

unfoldable pub all_node : ℕ → ℕ
all_node k = word_for (All (narrow k))

unfoldable pub number_node : ℕ → ℕ
number_node z = word_for (Number (narrow (upward z)))

unfoldable pub old_node : ℕ → ℕ
old_node k = word_for (Old (narrow k))

unfoldable pub new_node : ℕ → ℕ
new_node k = word_for (New (narrow k))

-- the sum of two words: automaton i's pointer, after v variables
unfoldable pub pointer_of : (v i : ℕ) → ℕ
pointer_of v i = narrow v + narrow i

-- the greatest word
abbrev pub most : ℕ
most = 4294967295

unfoldable pub capped : ℕ → ℕ
capped n = elim (leb n most) [ true ↦ n | false ↦ most ]
