-- The words of the merged init, and of the merged inv, made from the functions fs or gs: how many values each automaton
-- has (`domains`), and where the values stand (`places`); and from the start conditions, which the inv does not have.
use Rattle.std.specs.Prelude.{List, [], ◌∷◌, ◌++◌, ℕ, zero, suc, ◌+◌, get_or}
use Rattle.table_places.specs.declared.layout.Layout.{Layout}
use Rattle.table_places.specs.Layout.{automata_of}
use Rattle.merge_append.specs.Runs.{nodes_at}
use Rattle.merge_append.specs.NodeWords.{all_node, number_node, old_node, imp_node, eq_node, pointer_of, capped}
use Rattle.merge_predicates.specs.declared.functions.Functions.{Functions}
use Rattle.merge_predicates.specs.declared.starts.Starts.{Starts}
use Rattle.merge_predicates.specs.Starts.{add_starts, start_nodes_at}

-- `imp eq vK J` with the predicate at a place
unfoldable pub clause_words : (t : List ℕ) (k j part : ℕ) → List ℕ
clause_words t k j part = imp_node ∷ eq_node ∷ old_node k ∷ number_node j ∷ nodes_at t part

-- for n locations, from location j on, by the pointer k; the value of location 0 has the index `first`
unfoldable pub value_clauses : (t places : List ℕ) (first k j n : ℕ) → List ℕ
value_clauses t places first k j zero = []
value_clauses t places first k j (suc n) =
    clause_words t k j (get_or places (capped (first + j)) 0) ++ value_clauses t places first k (j + 1) n

-- for n automata, from automaton i on, by their pointers after v variables; the values of automaton i begin at `first`
unfoldable pub function_clauses : (t domains places : List ℕ) (v i n first : ℕ) → List ℕ
function_clauses t domains places v i zero first = []
function_clauses t domains places v i (suc n) first =
    let d = get_or domains i 0 in
    value_clauses t places first (pointer_of v i) 0 d ++
    function_clauses t domains places v (i + 1) n (capped (first + d))

-- how many nodes the clauses of n values have, from value i on, added to a sum; each has four of its own
unfoldable pub value_nodes : (t places : List ℕ) (i n sum : ℕ) → ℕ
value_nodes t places i zero sum = sum
value_nodes t places i (suc n) sum =
    value_nodes t places (i + 1) n (capped (capped (sum + 4) + get_or t (get_or places i 0) 0))

-- how many nodes there are with `all K`, and K: the clauses, and the start conditions
unfoldable pub merged_nodes : (t : List ℕ) (f : Functions) (s : Starts) → ℕ
merged_nodes t f s = add_starts t s.first s.count (value_nodes t f.places 0 f.total 1)

unfoldable pub merged_operands : (f : Functions) (s : Starts) → ℕ
merged_operands f s = capped (f.total + s.count)

-- the count of nodes, `all K`, the clauses, and the start conditions
unfoldable pub merged_words : (t : List ℕ) (x : Layout) (f : Functions) (s : Starts) → List ℕ
merged_words t x f s =
    merged_nodes t f s ∷ all_node (merged_operands f s) ∷
    (function_clauses t f.domains f.places x.variables 0 (automata_of x) 0 ++
    start_nodes_at t s.first s.count)
