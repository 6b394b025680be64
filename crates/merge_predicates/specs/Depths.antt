-- How deep the nodes nest that stand from a place on. On the words of a predicate it is the predicate's depth: the law
-- depth_of_lem.
use Rattle.std.specs.Prelude.{Bool, true, false, ◌||◌, List, ℕ, zero, suc, ◌+◌, get_or, ltb}
use Rattle.model.specs.Bounds.{max_depth}
use Rattle.model.specs.Predicate.{Word, all_of, any_of, not_word, imp_word, eq_word, le_word, num_word, old_word}
use Rattle.model.specs.Predicate.{new_word}
use Rattle.model.specs.Predicate.{add_word, sub_word, mul_word, if_word, stray}
use Rattle.model.specs.Table.{word_of}
use Rattle.table_places.specs.Outline.{reach, nodes_place, after_predicate}
use Rattle.merge_predicates.specs.declared.depth.Depth.{Depth}
use Rattle.merge_predicates.specs.declared.functions.Functions.{Functions}
use Rattle.merge_predicates.specs.declared.starts.Starts.{Starts}
use Rattle.merge_append.specs.NodeWords.{capped}

-- the operands of a node
unfoldable pub arity : Word → ℕ
arity (all_of k) = k
arity (any_of k) = k
arity not_word = 1
arity imp_word = 2
arity eq_word = 2
arity le_word = 2
arity (num_word z) = 0
arity (old_word k) = 0
arity (new_word k) = 0
arity add_word = 2
arity sub_word = 2
arity mul_word = 2
arity if_word = 3
arity stray = 0

unfoldable pub operands_of : (word : ℕ) → ℕ
operands_of w = arity (word_of w)

abbrev pub depth_to : (depth next : ℕ) → Depth
depth_to d next = record { depth = d; next = next }

unfoldable pub greater : ℕ → ℕ → ℕ
greater a b = elim (ltb a b) [ true ↦ b | false ↦ a ]

-- the deepest of n operands in a row, where D reads the one at a place
unfoldable pub deepest : (D : ℕ → Depth) (n at d : ℕ) → Depth
deepest D zero at d = depth_to d at
deepest D (suc n) at d = deepest D n (D at).next (greater d (D at).depth)

-- the node at a place, and its operands, nested at most `left` deep; deeper ones are not read
unfoldable pub depth_at : (t : List ℕ) (left at : ℕ) → Depth
depth_at t zero at = depth_to 0 at
depth_at t (suc n) at =
    depth_to (capped (1 + (deepest (λ a. depth_at t n a) (operands_of (get_or t at 0)) (reach t at 1) 0).depth))
    (deepest (λ a. depth_at t n a) (operands_of (get_or t at 0)) (reach t at 1) 0).next

-- is the predicate at a place deeper than `most`?
unfoldable pub is_deeper : (t : List ℕ) (most at : ℕ) → Bool
is_deeper t most at = ltb most (depth_at t (max_depth + 1) (nodes_place t at)).depth

-- is one of n values deeper, from value i on? `places` says where they stand
unfoldable pub values_deeper : (t : List ℕ) (most : ℕ) (places : List ℕ) (i n : ℕ) → Bool
values_deeper t most places i zero = false
values_deeper t most places i (suc n) = is_deeper t most (get_or places i 0) || values_deeper t most places (i + 1) n

-- and one of n start conditions, of which the first stands at a place?
unfoldable pub starts_deeper : (t : List ℕ) (most at n : ℕ) → Bool
starts_deeper t most at zero = false
starts_deeper t most at (suc n) = is_deeper t most at || starts_deeper t most (after_predicate t at) n

-- so the merged init, or the merged inv, is too deep: two deeper than its values, and one than its start conditions
unfoldable pub merged_deep : (t : List ℕ) (f : Functions) (s : Starts) → Bool
merged_deep t f s = values_deeper t 22 f.places 0 f.total || starts_deeper t 23 s.first s.count
