-- The moves that are planned and picked over a sheet's words are those of the model.
use mathlib.Core.Path.{◌≡◌, refl, sym, ap, ap₂, ◌∙◌}
use mathlib.Core.Bool.{Bool, true, false}
use mathlib.Core.List.Memᴰ
use mathlib.Core.List.{List, [], ◌∷◌, ◌++◌, map, flat_map, Memᴰ}
use Prim.Native.Nat.{ℕ, zero, suc, ◌+◌, ◌-◌, ◌≤◌, ◌<◌}
use native.Mathlib.Omega.{arith}
use native.Mathlib.Nat.{zero-add, add-zero}
use native.Mathlib.Numerals.{add-one}
use lib.ListN.{length, get_or, drop, replicate, length-map, length-replicate, get_or-append, get_or-map}
use lib.Seq.{sets, sets-eq, drop-drop, get_or-drop}
use lib.Dec.{eqb}
use Rattle.model.specs.Basic.{keep, count_up}
use Rattle.model.specs.Bounds.{max_edges}
use Rattle.model.specs.Model.{Edge, Automaton, Model, nobody, automaton, edge_total}
use Rattle.model.specs.Rules.{Taker}
use Rattle.model.specs.Lawful.{Lawful}
use Rattle.model.specs.Table.{sheet_words}
use Rattle.model.specs.Moves.{under, alone, moves, move_count}
use Rattle.model.proofs.Count.{moves_length}
use Rattle.merge_moves.specs.declared.planning.Planned.{Planned}
use Rattle.merge_moves.specs.Takers.{taker_of, takers_in, takers_of}
use Rattle.merge_moves.proofs.CappingLaws.{cap_small}
use Rattle.merge_moves.proofs.Plans.{Told}
use Rattle.merge_moves.proofs.Whole.{plan_is, pick_is, pick_there}
use Rattle.table_places.specs.declared.layout.Layout.{Layout}
use Rattle.table_places.specs.Outline.{after_predicate, update_place, first_edge, edges_at, after_automaton, first_automaton}
use Rattle.table_places.specs.Layout.{layout_of}
use Rattle.table_places.proofs.OutlineLaws.{edge_words, automaton_words, edge_count, first_edge_lem, after_automaton_lem}
use Rattle.table_places.proofs.LayoutLaws.{all_automata}
use Rattle.table_places.proofs.AgreeLaws.{own_agrees}
use Rattle.merge_append.specs.Append.{narrow}
use Rattle.merge_append.specs.NodeWords.{most, capped}
use Rattle.merge_append.proofs.NodeLaws.{capped_is}
use Rattle.merge_takers.specs.Taking.{is_under}
use Rattle.merge_takers.specs.Moves.{one_more, under_from, under_at, counts_from, counts_of, root_of, cells_of, move_total, picks_of, last_action}
use Rattle.merge_takers.proofs.MovesLaws.{more_here, more_not, last_all}
use Rattle.merge_table.proofs.Standing.{narrow_is, automata_cons, Along, along_first, along_rest, own_of}
use Rattle.merge_table.proofs.HeadIs.{automata_stand, laid_actions, laid_edges}
use Rattle.merge_table.proofs.ClausesAre.{capped_most, capped_add}
use Rattle.merge_table.proofs.EdgesAre.{no_edge, zeros, drop_zeros, under_yes, under_no, first_under, first_past, taker_by, takers_from, Valid}
use Rattle.merge_table.proofs.SyncIs.{root_stands}

-- A, as the layout has it
pub last_is : (m : Model) → Lawful m → (t rest : List ℕ) → t ≡ sheet_words m ++ rest → last_action (layout_of t) ≡ m.actions
last_is m lawful t rest e =
    let few = lawful.few_actions in
    let same = laid_actions m lawful t rest e in
    sym (last_all (layout_of t) (omega arith)) ∙ same

none_under : (action sum : ℕ) → sum + length (under action []) ≡ sum
unfolding under keep
none_under action sum = add-zero sum

-- the edges under an action, counted
count_under : (t : List ℕ) (action : ℕ) (es : List Edge) (at sum : ℕ) (rest : List ℕ) → sum ≤ most → drop at t ≡ edge_words es ++ rest
    → under_from t action (length es) at sum ≡ capped (sum + length (under action es))
unfolding under_from
count_under t action [] at sum rest h e = let z : sum + length (under action []) ≡ sum = none_under action sum in rw z (capped_is sum h)
count_under t action (x ∷ es) at sum rest h e =
    go (eqb x.action action) refl (λ s l. count_under t action es (after_predicate t (update_place t at)) s rest l (first_past t at x es rest e))
  where
    go : (b : Bool) → eqb x.action action ≡ b
        → ((s : ℕ) → s ≤ most → under_from t action (length es) (after_predicate t (update_place t at)) s ≡ capped (s + length (under action es)))
        → under_from t action (length es) (after_predicate t (update_place t at)) (one_more (is_under t action at) sum) ≡ capped (sum + length (under action (x ∷ es)))
    go true q ih =
        let u : is_under t action at ≡ true = first_under t at x es rest e action ∙ q in
        let m : one_more (is_under t action at) sum ≡ capped (sum + 1) = sym (more_here (is_under t action at) sum u (capped (sum + 1)) refl) in
        let n : sum + 1 + length (under action es) ≡ sum + length (x ∷ under action es) = omega arith in
        rw (m, under_yes action x es q) (ih (capped (sum + 1)) (capped_most (sum + 1)) ∙ capped_add (sum + 1) (length (under action es)) ∙ ap capped n)
    go false q ih =
        let u : is_under t action at ≡ false = first_under t at x es rest e action ∙ q in
        let m : one_more (is_under t action at) sum ≡ sum = sym (more_not (is_under t action at) sum u) in
        rw (m, under_no action x es q) (ih sum h)

-- no more are under an action than there are
kept_few : (action : ℕ) (es : List Edge) → length (under action es) ≤ length es
unfolding under keep
kept_few action [] = omega arith
kept_few action (x ∷ es) = go (eqb x.action action) (kept_few action es)
  where
    go : (b : Bool) → length (under action es) ≤ length es → length {A = Edge} (elim b as (λ c. List Edge) [ true ↦ x ∷ under action es | false ↦ under action es ]) ≤ suc (length es)
    go true h = omega arith
    go false h = omega arith

pub edges_few : (xs : List Automaton) (x : Automaton) → Memᴰ x xs → length x.edges ≤ edge_total xs
unfolding edge_total
edges_few [] x i = absurd (Memᴰ.not-nil i)
edges_few (y ∷ xs) x (Memᴰ.head e) = let z : length x.edges ≡ length y.edges = ap (λ (w : Automaton). length w.edges) e in omega arith
edges_few (y ∷ xs) x (Memᴰ.tail i) = let h = edges_few xs x i in omega arith

abbrev count_of : ℕ → Automaton → ℕ
count_of action x = length (under action x.edges)

counts_are : (t edges : List ℕ) (action : ℕ) (xs : List Automaton) (i at : ℕ) (rest : List ℕ) → ((x : Automaton) → Memᴰ x xs → length x.edges ≤ max_edges)
    → drop at t ≡ automaton_words xs ++ rest → Along t (edges_at t) edges i at (length xs) → counts_from t edges action i (length xs) ≡ map (count_of action) xs
unfolding counts_from under_at
counts_are t edges action [] i at rest few e starts = refl
counts_are t edges action (x ∷ xs) i at rest few e starts =
    let f = automata_cons t at x xs rest e in
    let others = automaton_words xs ++ rest in
    let place : get_or edges i 0 ≡ edges_at t at = along_first t (edges_at t) edges i at (length xs) starts in
    let n : get_or t (edges_at t at) 0 ≡ length x.edges = edge_count t others x at f in
    let some = few x (Memᴰ.head refl) in
    let k = kept_few action x.edges in
    let small : count_of action x ≤ most = omega arith in
    let fits : count_of action x < 4294967296 = omega arith in
    let one : narrow (under_from t action (get_or t (get_or edges i 0) 0) (first_edge t (get_or edges i 0)) 0) ≡ count_of action x =
    ap narrow (ap (λ c. under_from t action (get_or t c 0) (first_edge t c) 0) place ∙ ap (λ c. under_from t action c (first_edge t (edges_at t at)) 0) n ∙
    count_under t action x.edges (first_edge t (edges_at t at)) 0 others (omega arith) (first_edge_lem t others x at f) ∙
    ap capped (zero-add (count_of action x)) ∙ sym (capped_is (count_of action x) small)) ∙ narrow_is (count_of action x) fits in
    rw (add-one i)
    (ap₂ (λ (y : ℕ) (l : List ℕ). y ∷ l) one
    (counts_are t edges action xs (suc i) (after_automaton t at) rest (λ y q. few y (Memᴰ.tail q)) (after_automaton_lem t others x at f) (along_rest t (edges_at t) edges i at (length xs) starts)))

module _ (m : Model) (lawful : Lawful m) (t rest : List ℕ) (e : t ≡ sheet_words m ++ rest) where
  abbrev lay : Layout
  lay = layout_of t

  counts_whole : (action : ℕ) → counts_of t lay action ≡ map (count_of action) m.automata ++ zeros (16 - length m.automata)
  unfolding counts_of
  counts_whole action =
      let n = length m.automata in
      let few = lawful.few_automata in
      let fe = lawful.few_edges in
      let ps = map (count_of action) m.automata in
      let size : length ps ≡ n = length-map m.automata (count_of action) in
      let end : 0 + length ps ≡ n = omega arith in
      let room : 0 + length ps ≤ length (zeros 16) = omega (arith, length-replicate {A = ℕ} 16 0) in
      ap (λ c. sets (zeros 16) 0 (counts_from t lay.edges action 0 c)) (all_automata m lawful t rest e) ∙
      ap (sets (zeros 16) 0) (counts_are t lay.edges action m.automata 0 (first_automaton t) _ (λ x i. let h = edges_few m.automata x i in omega arith) (automata_stand m lawful t rest e) (laid_edges m lawful t rest e)) ∙
      sets-eq ps (zeros 16) 0 room ∙ ap (λ (l : List ℕ). ps ++ l) (ap (λ c. drop c (zeros 16)) end ∙ drop_zeros n 16 few)

  count_at_lem : (action k : ℕ) → k < length m.automata → get_or (counts_of t lay action) k 0 ≡ length (under action (automaton m k).edges)
  unfolding under keep
  count_at_lem action k h =
      let inside : k < length (map (count_of action) m.automata) = omega (arith, length-map m.automata (count_of action)) in
      ap (λ (l : List ℕ). get_or l k 0) (counts_whole action) ∙ get_or-append (map (count_of action) m.automata) (zeros (16 - length m.automata)) 0 k inside ∙ get_or-map (count_of action) m.automata k nobody

  pub told : (action k : ℕ) → k < length m.automata → Told (own_of t) (counts_of t lay action) m action k
  told action k h = record { inside = own_agrees m lawful t rest e action k; edges = count_at_lem action k h }

  -- row 32's counts
  pub total_is : (action : ℕ) → move_count m action m.tree ≤ max_edges → move_total t lay (own_of t) action ≡ move_count m action m.tree
  unfolding move_total
  total_is action few =
      ap (λ (p : Planned). p.count) (plan_is t (own_of t) (counts_of t lay action) m action (root_of t lay) lawful (root_stands m lawful t rest e) (told action)) ∙ sym (cap_small (move_count m action m.tree) few)

  -- of the automata from automaton i on, the first and those after it
  module _ (i : ℕ) (x : Automaton) (xs : List Automaton) (q : drop i m.automata ≡ x ∷ xs) where
    left_first : automaton m i ≡ x
    left_first =
        let z : i + 0 ≡ i = omega arith in
        ap (λ k. get_or m.automata k nobody) (sym z) ∙ sym (get_or-drop i m.automata 0 nobody) ∙ ap (λ (l : List Automaton). get_or l 0 nobody) q

    left_rest : drop (suc i) m.automata ≡ xs
    left_rest = let z : suc i ≡ i + 1 = omega arith in ap (λ c. drop c m.automata) z ∙ sym (drop-drop 1 i m.automata) ∙ ap (drop 1) q

  -- the takers that picks name, said in two ways
  same_takers_lem : (action : ℕ) (picks : List ℕ) (xs : List Automaton) (i : ℕ) → drop i m.automata ≡ xs → takers_in m action picks (count_up i (length xs)) ≡ takers_from action picks i xs
  unfolding takers_in takers_from count_up flat_map
  same_takers_lem action picks [] i q = refl
  same_takers_lem action picks (x ∷ xs) i q =
      let one : taker_of m action i (get_or picks i 0) ≡ taker_by action i x (get_or picks i 0) = taker_same (get_or picks i 0) i x (left_first i x xs q) in
      ap₂ (λ (k l : List Taker). k ++ l) one (same_takers_lem action picks xs (suc i) (left_rest i x xs q))
    where
      taker_same : (pick j : ℕ) (y : Automaton) → automaton m j ≡ y → taker_of m action j pick ≡ taker_by action j y pick
      taker_same zero j y r = unfold taker_of taker_by in refl
      taker_same (suc k) j y r = unfold taker_of taker_by in ap (λ (w : Automaton). alone j (get_or (under action w.edges) k no_edge)) r

  -- the picks of a move name edges that are there
  valid_picks : (action : ℕ) (picks : List ℕ) → ((i q : ℕ) → i < length m.automata → get_or picks i 0 ≡ suc q → q < length (under action (automaton m i).edges))
      → (xs : List Automaton) (i : ℕ) → i + length xs ≡ length m.automata → drop i m.automata ≡ xs → Valid action picks i xs
  unfolding Valid
  valid_picks action picks there [] i n q = tt
  valid_picks action picks there (x ∷ xs) i n q =
      (bound (get_or picks i 0) refl (left_first i x xs q), valid_picks action picks there xs (suc i) (omega arith) (left_rest i x xs q))
    where
      bound : (p : ℕ) → get_or picks i 0 ≡ p → automaton m i ≡ x → p ≤ length (under action x.edges)
      bound zero r h = omega arith
      bound (suc k) r h =
          let l = there i k (omega arith) r in
          let s : length (under action (automaton m i).edges) ≡ length (under action x.edges) = ap (λ (w : Automaton). length (under action w.edges)) h in
          omega arith

  -- the takers of move k
  module _ (action : ℕ) (few : move_count m action m.tree ≤ max_edges) (k : ℕ) (h : k < length (moves m action m.tree)) where
    abbrev picked : List ℕ
    picked = picks_of t lay (cells_of t lay (own_of t) action) k

    below : k < move_count m action m.tree
    below = omega (arith, moves_length m action m.tree)

    pub move_named : takers_from action picked 0 m.automata ≡ get_or (moves m action m.tree) k []
    unfolding picks_of cells_of takers_of
    move_named =
        sym (same_takers_lem action picked m.automata 0 refl) ∙
        pick_is t (own_of t) (counts_of t lay action) m action (root_of t lay) lawful (root_stands m lawful t rest e) (told action) (replicate 192 0) refl k below few

    pub move_valid : Valid action picked 0 m.automata
    unfolding picks_of cells_of
    move_valid =
        valid_picks action picked
        (pick_there t (own_of t) (counts_of t lay action) m action (root_of t lay) lawful (root_stands m lawful t rest e) (told action) (replicate 192 0) refl k below few)
        m.automata 0 (omega arith) refl
