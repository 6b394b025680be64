-- Each way out of the code of src/edge.rt.
use mathlib.Core.Path.{◌≡◌, refl, sym, ap, ap₂, ◌∙◌}
use Rattle.std.specs.List.{fold, list_any}
use mathlib.Core.Bool.{Bool, false, ◌||◌}
use mathlib.Core.List.{List, [], ◌∷◌, ◌++◌}
use Prim.Native.Nat.{ℕ, ◌+◌, ◌≤◌, ◌<◌}
use native.Mathlib.Omega.{arith}
use native.Mathlib.Numerals.{add-one}
use lib.ListN.{length, get_or, drop, drop_of_length-le}
use lib.Seq.{drop-cons}
use borrow.Author.Tests.{eq-eqb, ne_eqb}
use Rattle.table_places.specs.Outline.{edge_from, edge_to, update_place}
use Rattle.merge_append.specs.declared.append.Filling.{Filling}
use Rattle.merge_append.specs.Append.{Filled}
use Rattle.merge_append.specs.Runs.{nodes_at}
use Rattle.merge_append.specs.NodeWords.{all_node, number_node, old_node, new_node, eq_node, pointer_of, capped}
use Rattle.merge_append.proofs.AppendLaws.{none_filled, then_filled, Underway, begun, on_by, ended}
use Rattle.merge_predicates.specs.Depths.{is_deeper}
use Rattle.merge_edges.specs.Edge.{update_at, move_at, updates_at, moves_at, taker_nodes, takers_nodes, taker_operands}
use Rattle.merge_edges.specs.Edge.{takers_operands, edge_by, update_deep, updates_deep}

-- `update`
module _ (t : List ℕ) (place : ℕ) (old : Filling) where
  pub update_none : place ≡ 0 → Filled (update_at t place) old old
  unfolding update_at
  update_none z = rw (eq-eqb place 0 z, update_at) (none_filled old)

  pub update_is : (place ≡ 0 → ⊥) → (p : ℕ) (new : Filling) → p ≡ update_place t place
      → Filled (nodes_at t p) old new → Filled (update_at t place) old new
  unfolding update_at
  update_is y p new e a = rw (ne_eqb place 0 y, update_at, ← e) a

pub ruleset update_laws = (update_none, update_is)

-- `equal`
pub equal_is : (p l q z : ℕ) (old new : Filling) → q ≡ eq_node → z ≡ number_node l
    → Filled (q ∷ p ∷ z ∷ []) old new → Filled (eq_node ∷ p ∷ number_node l ∷ []) old new
equal_is p l q z old new f e a = rw (← f, ← e) a

-- `pointer_move`
module _ (t : List ℕ) (k place : ℕ) (old : Filling) where
  pub move_none : place ≡ 0 → Filled (move_at t k place) old old
  unfolding move_at
  move_none z = rw (eq-eqb place 0 z, move_at) (none_filled old)

  pub move_is : (place ≡ 0 → ⊥) → (from to o n : ℕ) (mid new : Filling) → from ≡ edge_from t place
      → to ≡ edge_to t place → o ≡ old_node k → n ≡ new_node k
      → Filled (eq_node ∷ o ∷ number_node from ∷ []) old mid
      → Filled (eq_node ∷ n ∷ number_node to ∷ []) mid new → Filled (move_at t k place) old new
  unfolding move_at
  move_is y from to o n mid new ef et eo en p q =
      rw (ne_eqb place 0 y, move_at, ← ef, ← et, ← eo, ← en) (then_filled p q)

pub ruleset move_laws = (move_none, move_is)

-- one of sixteen, and none after the last
pub one_more_lem : (l : List ℕ) (i : ℕ) → length l ≡ 16 → i < 16 → drop i l ≡ get_or l i 0 ∷ drop (i + 1) l
one_more_lem l i e h = rw (add-one i) (drop-cons l i 0 (omega arith))

pub no_more : (l : List ℕ) (i : ℕ) → length l ≡ 16 → 16 ≤ i → drop i l ≡ []
no_more l i e h = let z : length l ≤ i = omega arith in drop_of_length-le l z

-- `updates`
module _ (t places whole : List ℕ) (old now : Filling) (i : ℕ) (e : length places ≡ 16)
    (u : Underway whole old (updates_at t (drop i places)) now) where
  pub updates_turn : i < 16 → (p : ℕ) (new : Filling) → p ≡ get_or places i 0
      → Filled (update_at t p) now new → Underway whole old (updates_at t (drop (i + 1) places)) new
  unfolding updates_at
  updates_turn h p new f a =
      on_by u
      (ap (updates_at t) (one_more_lem places i e h)
      ∙ ap (λ (x : ℕ). update_at t x ++ updates_at t (drop (i + 1) places)) (sym f)) a

  pub updates_end : 16 ≤ i → Filled whole old now
  unfolding updates_at
  updates_end h = ended u (ap (updates_at t) (no_more places i e h))

pub ruleset updates_laws = (begun, updates_turn, updates_end)

-- `pointer_moves`
module _ (t places whole : List ℕ) (old now : Filling) (v i : ℕ) (e : length places ≡ 16)
    (u : Underway whole old (moves_at t v i (drop i places)) now) where
  pub moves_turn : i < 16 → (k p : ℕ) (new : Filling) → k ≡ pointer_of v i → p ≡ get_or places i 0
      → Filled (move_at t k p) now new
      → Underway whole old (moves_at t v (i + 1) (drop (i + 1) places)) new
  unfolding moves_at
  moves_turn h k p new ek f a =
      on_by u
      (ap (moves_at t v i) (one_more_lem places i e h)
      ∙ ap₂ (λ (j x : ℕ). move_at t j x ++ moves_at t v (i + 1) (drop (i + 1) places)) (sym ek) (sym f)) a

  pub moves_end : 16 ≤ i → Filled whole old now
  unfolding moves_at
  moves_end h = ended u (ap (moves_at t v i) (no_more places i e h))

pub ruleset moves_laws = (begun, moves_turn, moves_end)

-- `taker_nodes`
module _ (t : List ℕ) (sum place : ℕ) where
  pub taker_nodes_none : place ≡ 0 → sum ≡ taker_nodes t sum place
  unfolding taker_nodes
  taker_nodes_none z = rw (eq-eqb place 0 z, taker_nodes)

  pub taker_nodes_is : (place ≡ 0 → ⊥) → (s n c r : ℕ) → s ≡ update_place t place → n ≡ get_or t s 0
      → c ≡ capped (sum + 6) → r ≡ capped (c + n) → r ≡ taker_nodes t sum place
  unfolding taker_nodes
  taker_nodes_is y s n c r es en ec er = rw (ne_eqb place 0 y, taker_nodes, ← es, ← en, ← ec) er

-- `takers_nodes`
pub nodes_folded : (t : List ℕ) (sum : ℕ) (places : List ℕ)
    → fold (taker_nodes t) sum places ≡ takers_nodes t sum places
unfolding takers_nodes
nodes_folded t sum [] = refl
nodes_folded t sum (p ∷ ps) = nodes_folded t (taker_nodes t sum p) ps

-- `taker_operands`
module _ (sum place : ℕ) where
  pub taker_operands_none : place ≡ 0 → sum ≡ taker_operands sum place
  unfolding taker_operands
  taker_operands_none z = rw (eq-eqb place 0 z, taker_operands)

  pub taker_operands_is : (place ≡ 0 → ⊥) → (r : ℕ) → r ≡ capped (sum + 3) → r ≡ taker_operands sum place
  unfolding taker_operands
  taker_operands_is y r er = rw (ne_eqb place 0 y, taker_operands) er

-- `takers_operands`
pub operands_folded : (sum : ℕ) (places : List ℕ) → fold taker_operands sum places ≡ takers_operands sum places
unfolding takers_operands
operands_folded sum [] = refl
operands_folded sum (p ∷ ps) = operands_folded (taker_operands sum p) ps

-- `edge`
pub edge_is : (t places : List ℕ) (action nodes operands word v : ℕ) → nodes ≡ takers_nodes t 1 places
    → operands ≡ takers_operands 0 places → word ≡ all_node operands → (old m1 m2 new : Filling)
    → Filled (0 ∷ action ∷ 0 ∷ nodes ∷ word ∷ []) old m1 → Filled (updates_at t places) m1 m2
    → Filled (moves_at t v 0 places) m2 new → Filled (edge_by t v action places) old new
unfolding edge_by
edge_is t places action nodes operands word v e1 e2 e3 old m1 m2 new p1 p2 p3 =
    rw (← e1, ← e2, ← e3) (then_filled p1 (then_filled p2 p3))

-- `update_deep`
module _ (t : List ℕ) (place : ℕ) where
  pub update_deep_none : place ≡ 0 → false ≡ update_deep t place
  unfolding update_deep
  update_deep_none z = rw (eq-eqb place 0 z, update_deep)

  pub update_deep_is : (place ≡ 0 → ⊥) → (s : ℕ) (r : Bool) → s ≡ update_place t place → r ≡ is_deeper t 23 s
      → r ≡ update_deep t place
  unfolding update_deep
  update_deep_is y s r es er = rw (ne_eqb place 0 y, update_deep, ← es) er

-- `updates_deep`
pub some_deep : (t places : List ℕ) → list_any (update_deep t) places ≡ updates_deep t places
unfolding updates_deep
some_deep t [] = refl
some_deep t (p ∷ ps) = ap (λ b. update_deep t p || b) (some_deep t ps)

-- what the equations in src/edge.rt need
pub ruleset edge_laws = (
  taker_nodes_none,
  taker_nodes_is,
  taker_operands_none,
  taker_operands_is,
  update_deep_none,
  update_deep_is,
)
