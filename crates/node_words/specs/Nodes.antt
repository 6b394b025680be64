-- The nodes of predicates as the code has them, each beside the word of the definitions that it stands for, and the
-- table words that hold them.
use Rattle.std.specs.Prelude.{ℕ, ◌%◌}
use Rattle.model.specs.Predicate.{Word, all_of, any_of, not_word, imp_word, eq_word, le_word, num_word, old_word}
use Rattle.model.specs.Predicate.{new_word}
use Rattle.model.specs.Predicate.{add_word, sub_word, mul_word, if_word, stray}
use Rattle.model.specs.Table.{biased, unbiased, code, word_of}
use Rattle.node_words.specs.declared.Node.{Node}
use Rattle.node_words.specs.declared.Node.TheVariants.{All, Any, Not, Imp, Eq, Le, Number, Old, New, Add, Sub}
use Rattle.node_words.specs.declared.Node.TheVariants.{Mul, If, Stray}

-- what a node stands for, and the node of a word
unfoldable pub meant : Node → Word
meant (All k) = all_of k
meant (Any k) = any_of k
meant Not = not_word
meant Imp = imp_word
meant Eq = eq_word
meant Le = le_word
meant (Number n) = num_word (unbiased n)
meant (Old k) = old_word k
meant (New k) = new_word k
meant Add = add_word
meant Sub = sub_word
meant Mul = mul_word
meant If = if_word
meant Stray = stray

unfoldable pub node_for : Word → Node
node_for (all_of k) = All k
node_for (any_of k) = Any k
node_for not_word = Not
node_for imp_word = Imp
node_for eq_word = Eq
node_for le_word = Le
node_for (num_word z) = Number (biased z)
node_for (old_word k) = Old k
node_for (new_word k) = New k
node_for add_word = Add
node_for sub_word = Sub
node_for mul_word = Mul
node_for if_word = If
node_for stray = Stray

-- the node that a table's word holds
unfoldable pub node_of : ℕ → Node
node_of w = node_for (word_of w)

-- as much of an argument as a word has room for: the low 27 bits, of a number the low 31
unfoldable pub room : ℕ → ℕ
room k = k % 134217728

unfoldable pub number_room : ℕ → ℕ
number_room n = n % 2147483648

unfoldable pub fitted : Node → Node
fitted (All k) = All (room k)
fitted (Any k) = Any (room k)
fitted Not = Not
fitted Imp = Imp
fitted Eq = Eq
fitted Le = Le
fitted (Number n) = Number (number_room n)
fitted (Old k) = Old (room k)
fitted (New k) = New (room k)
fitted Add = Add
fitted Sub = Sub
fitted Mul = Mul
fitted If = If
fitted Stray = Stray

-- the word that holds a node
unfoldable pub word_for : Node → ℕ
word_for n = code (meant (fitted n))
