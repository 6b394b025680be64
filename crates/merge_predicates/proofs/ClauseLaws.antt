-- Each way out of the code of src/clauses.rt.
use mathlib.Core.Path.{◌≡◌, sym, ap, ◌∙◌, subst}
use mathlib.Core.List.{List, [], ◌∷◌, ◌++◌}
use Prim.Native.Nat.{ℕ, suc, ◌+◌, ◌-◌, ◌≤◌, ◌<◌}
use native.Mathlib.Omega.{arith}
use lib.ListN.{get_or}
use Rattle.table_places.specs.declared.layout.Layout.{Layout}
use Rattle.table_places.specs.Layout.{automata_of}
use Rattle.merge_append.specs.declared.append.Filling.{Filling}
use Rattle.merge_append.specs.Append.{Filled}
use Rattle.merge_append.specs.Runs.{nodes_at}
use Rattle.merge_append.specs.NodeWords.{all_node, number_node, old_node, imp_node, eq_node, pointer_of, capped}
use Rattle.merge_predicates.specs.declared.functions.Functions.{Functions}
use Rattle.merge_predicates.specs.declared.starts.Starts.{Starts}
use Rattle.merge_predicates.specs.Starts.{add_starts, start_nodes_at}
use Rattle.merge_predicates.specs.Clauses.{clause_words, value_clauses, function_clauses, value_nodes, merged_nodes}
use Rattle.merge_predicates.specs.Clauses.{merged_operands, merged_words}
use Rattle.merge_append.proofs.AppendLaws.{then_filled, Underway, begun, on_by, ended}

-- `clause`
pub clause_is : (t : List ℕ) (k j part i q o z : ℕ) → i ≡ imp_node → q ≡ eq_node → o ≡ old_node k → z ≡ number_node j
    → (old mid new : Filling) → Filled (i ∷ q ∷ o ∷ z ∷ []) old mid → Filled (nodes_at t part) mid new
    → Filled (clause_words t k j part) old new
unfolding clause_words
clause_is t k j part i q o z g h e f old mid new p s = rw (← g, ← h, ← e, ← f) (then_filled p s)

-- `at_locations`
module _ (t places : List ℕ) (first k count : ℕ) where
  pub locations_begun : (old : Filling)
      → Underway (value_clauses t places first k 0 count) old (value_clauses t places first k 0 (count - 0)) old
  locations_begun old =
      let z : count - 0 ≡ count = omega arith in rw z (begun (value_clauses t places first k 0 count) old)

  module _ (old now : Filling) (j : ℕ)
      (u : Underway (value_clauses t places first k 0 count) old (value_clauses t places first k j (count - j)) now) where
    pub locations_turn : j < count → (i p : ℕ) (new : Filling) → i ≡ capped (first + j) → p ≡ get_or places i 0
        → Filled (clause_words t k j p) now new
        → Underway (value_clauses t places first k 0 count) old
        (value_clauses t places first k (j + 1) (count - (j + 1))) new
    unfolding value_clauses
    locations_turn h i p new ei ep a =
        let n : count - j ≡ suc (count - (j + 1)) = omega arith in
        let others = value_clauses t places first k (j + 1) (count - (j + 1)) in
        on_by u
        (ap (value_clauses t places first k j) n
        ∙ ap (λ q. clause_words t k j q ++ others) (sym (ep ∙ ap (λ q. get_or places q 0) ei))) a

    pub locations_end : count ≤ j → Filled (value_clauses t places first k 0 count) old now
    unfolding value_clauses
    locations_end h = let n : count - j ≡ 0 = omega arith in ended u (ap (value_clauses t places first k j) n)

pub ruleset locations_laws = (locations_begun, locations_turn, locations_end)

-- `at_automata`
module _ (t domains places : List ℕ) (v count : ℕ) where
  abbrev from : (i n first : ℕ) → List ℕ
  from = function_clauses t domains places v

  pub automata_begun : (old : Filling)
      → Underway (function_clauses t domains places v 0 count 0) old
      (function_clauses t domains places v 0 (count - 0) 0) old
  automata_begun old = let z : count - 0 ≡ count = omega arith in rw z (begun (from 0 count 0) old)

  module _ (old now : Filling) (i first : ℕ)
      (u : Underway (function_clauses t domains places v 0 count 0) old
      (function_clauses t domains places v i (count - i) first) now) where
    pub automata_turn : i < count → (k d s : ℕ) (new : Filling) → k ≡ pointer_of v i → d ≡ get_or domains i 0
        → Filled (value_clauses t places first k 0 d) now new → s ≡ capped (first + d)
        → Underway (function_clauses t domains places v 0 count 0) old
        (function_clauses t domains places v (i + 1) (count - (i + 1)) s) new
    unfolding function_clauses
    automata_turn h k d s new ek ed a es =
        let n : count - i ≡ suc (count - (i + 1)) = omega arith in
        let here : function_clauses t domains places v i (count - i) first
        ≡ value_clauses t places first k 0 d ++ from (i + 1) (count - (i + 1)) s =
        ap (λ c. from i c first) n ∙ rw (es, ek, ed) in
        on_by u here a

    pub automata_end : count ≤ i → (x : Layout) → v ≡ x.variables → count ≡ automata_of x
        → Filled (function_clauses t domains places x.variables 0 (automata_of x) 0) old now
    unfolding function_clauses
    automata_end h x ev ec =
        let n : count - i ≡ 0 = omega arith in
        let whole : from 0 count 0 ≡ function_clauses t domains places x.variables 0 (automata_of x) 0 = rw (ev, ec) in
        subst (λ (l : List ℕ). Filled l old now) whole (ended u (ap (λ c. from i c first) n))

pub ruleset automata_laws = (automata_begun, automata_turn, automata_end)

-- `merged_nodes`
module _ (t places : List ℕ) (count i sum whole : ℕ) (u : value_nodes t places i (count - i) sum ≡ whole) where
  pub nodes_turn : i < count → (p n c d : ℕ) → p ≡ get_or places i 0 → n ≡ get_or t p 0 → c ≡ capped (sum + 4)
      → d ≡ capped (c + n) → value_nodes t places (i + 1) (count - (i + 1)) d ≡ whole
  unfolding value_nodes
  nodes_turn h p n c d ep en ec ed =
      let m : count - i ≡ suc (count - (i + 1)) = omega arith in
      rw (ed, ec, en, ep) (rw m at u)

  pub nodes_end : count ≤ i → sum ≡ whole
  unfolding value_nodes
  nodes_end h = let z : count - i ≡ 0 = omega arith in rw z at u

pub ruleset nodes_laws = (nodes_turn, nodes_end)

-- `opening`
pub opening_is : (t : List ℕ) (f : Functions) (s : Starts) (own nodes k word : ℕ)
    → own ≡ value_nodes t f.places 0 f.total 1
    → nodes ≡ add_starts t s.first s.count own → k ≡ capped (f.total + s.count) → word ≡ all_node k
    → (old new : Filling) → Filled (nodes ∷ word ∷ []) old new
    → Filled (merged_nodes t f s ∷ all_node (merged_operands f s) ∷ []) old new
unfolding merged_nodes merged_operands
opening_is t f s own nodes k word eo en ek ew old new p = rw (← eo, ← en, ← ek, ← ew) p

-- `merged`
pub merged_is : (t : List ℕ) (x : Layout) (f : Functions) (s : Starts) (old m1 m2 new : Filling)
    → Filled (merged_nodes t f s ∷ all_node (merged_operands f s) ∷ []) old m1
    → Filled (function_clauses t f.domains f.places x.variables 0 (automata_of x) 0) m1 m2
    → Filled (start_nodes_at t s.first s.count) m2 new → Filled (merged_words t x f s) old new
unfolding merged_words
merged_is t x f s old m1 m2 new p q u = then_filled p (then_filled q u)
