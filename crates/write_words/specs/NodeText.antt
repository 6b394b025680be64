-- What is written for words, on any words: the nodes of predicates, sets, and the nodes of the tree.
use Rattle.std.specs.Prelude.{ℕ, zero, suc, Bool, true, false, ◌&&◌, List, [], ◌∷◌, ◌++◌, map, get_or, take, drop, eqb}
use Rattle.model.specs.Basic.{keep, count_up}
use Rattle.model.specs.Table.{unbiased, word_of, bit, set_of}
use Rattle.node_words.specs.declared.Node.{Node}
use Rattle.node_words.specs.declared.Node.TheVariants.{All, Any, Not, Imp, Eq, Le, Number, Old, New, Add, Sub, Mul}
use Rattle.node_words.specs.declared.Node.TheVariants.{If, Stray}
use Rattle.format.specs.Bytes.{Bytes, bytes, joined, space, comma, 'a}
use Rattle.format.specs.Number.{decimal, signed}
use Rattle.format.specs.Spelling.{spelled, text_of_list}
use Rattle.write_words.specs.declared.growing.Part.{Part}
use Rattle.write_words.specs.Growing.{between, part}

-- A node of a predicate, and nodes in a row.
unfoldable pub word_text : ℕ → Bytes
word_text w = joined space (spelled (word_of w))

unfoldable pub words_text : List ℕ → Bytes
words_text ws = joined space (map word_text ws)

-- the predicate that some words begin with: its count of nodes, and the nodes
unfoldable pub predicate_text : List ℕ → Bytes
predicate_text ws = words_text (take (get_or ws 0 0) (drop 1 ws))

-- the same in two parts, the node's name and its argument
unfoldable pub name_text : Node → Bytes
name_text (All k) = bytes "all "
name_text (Any k) = bytes "any "
name_text Not = bytes "not"
name_text Imp = bytes "imp"
name_text Eq = bytes "eq"
name_text Le = bytes "le"
name_text (Number n) = []
name_text (Old k) = bytes "v"
name_text (New k) = bytes "n"
name_text Add = bytes "add"
name_text Sub = bytes "sub"
name_text Mul = bytes "mul"
name_text If = bytes "if"
name_text Stray = []

-- Where a name stands among all names in one row; that part of it is its text (the law name_part_lem).
unfoldable pub name_part : Node → Part
name_part (All k) = part 0 4
name_part (Any k) = part 4 8
name_part Not = part 8 11
name_part Imp = part 11 14
name_part Eq = part 14 16
name_part Le = part 16 18
name_part (Number n) = part 31 31
name_part (Old k) = part 18 19
name_part (New k) = part 19 20
name_part Add = part 20 23
name_part Sub = part 23 26
name_part Mul = part 26 29
name_part If = part 29 31
name_part Stray = part 31 31

unfoldable pub argument_text : Node → Bytes
argument_text (All k) = decimal k
argument_text (Any k) = decimal k
argument_text Not = []
argument_text Imp = []
argument_text Eq = []
argument_text Le = []
argument_text (Number n) = signed (unbiased n)
argument_text (Old k) = decimal k
argument_text (New k) = decimal k
argument_text Add = []
argument_text Sub = []
argument_text Mul = []
argument_text If = []
argument_text Stray = []

-- A set of two words, and one of 64 bits. A number is written if it is in the set, after a comma if others were.
abbrev pub set_text : (low high : ℕ) → Bytes
set_text low high = text_of_list (set_of low high)

unfoldable pub members_text : ℕ → Bytes
members_text both = text_of_list (keep (bit both) (count_up 0 64))

unfoldable pub member_text : (is_in first : Bool) → ℕ → Bytes
member_text true first k = between first (comma ∷ []) ++ decimal k
member_text false first k = []

-- The node of the tree that some words begin with; an `ini` is a `syn` with no action, and its P is the one that the
-- words `ps` begin with.
unfoldable pub is_ini : List ℕ → Bool
is_ini ws = eqb (get_or ws 0 0) 1 && (eqb (get_or ws 1 0) 0 && eqb (get_or ws 2 0) 0)

unfoldable pub over_text : (ini : Bool) (ws ps : List ℕ) → Bytes
over_text true ws ps = bytes "ini " ++ predicate_text ps
over_text false ws ps = bytes "syn " ++ set_text (get_or ws 1 0) (get_or ws 2 0)

unfoldable pub node_by : ℕ → (ws ps : List ℕ) → Bytes
node_by zero ws ps = bytes "par"
node_by (suc zero) ws ps = over_text (is_ini ws) ws ps
node_by (suc (suc k)) ws ps = 'a ∷ decimal k

unfoldable pub node_text : (ws ps : List ℕ) → Bytes
node_text ws ps = node_by (get_or ws 0 0) ws ps

-- how many words it has, and the P's after it: those after its own, if it is an `ini`
unfoldable pub size_by : ℕ → ℕ
size_by zero = 1
size_by (suc zero) = 3
size_by (suc (suc k)) = 1

unfoldable pub node_size : List ℕ → ℕ
node_size ws = size_by (get_or ws 0 0)

unfoldable pub starts_after : (ini : Bool) → List ℕ → List ℕ
starts_after true ps = drop (get_or ps 0 0) (drop 1 ps)
starts_after false ps = ps

-- n nodes
unfoldable pub node_texts : ℕ → (ws ps : List ℕ) → List Bytes
node_texts zero ws ps = []
node_texts (suc n) ws ps = node_text ws ps ∷ node_texts n (drop (node_size ws) ws) (starts_after (is_ini ws) ps)
