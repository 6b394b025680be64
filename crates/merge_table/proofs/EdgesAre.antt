-- A merged edge's words are those of the merged model's edge with the takers that the picks name.
use mathlib.Core.Path.{◌≡◌, refl, sym, ap, ap₂, ◌∙◌}
use mathlib.Core.Bool.{Bool, true, false, ◌&&◌, ◌||◌, or-false}
use mathlib.Core.List.{List, [], ◌∷◌, ◌++◌, append_assoc, append-nil, map, map-append, flat_map, Memᴰ}
use Prim.Native.Nat.{ℕ, zero, suc, ◌+◌, ◌-◌, ◌*◌, ◌≤◌, ◌<◌}
use native.Mathlib.Omega.{arith}
use native.Mathlib.Nat.{add-zero}
use native.Mathlib.Numerals.{add-one}
use lib.IntN.{pos}
use lib.ListN.{length, get_or, drop, replicate, length-append, length-drop, length-map, length-replicate}
use lib.Seq.{sets, sets-eq}
use lib.Dec.{eqb, leb, ltb}
use borrow.Author.Tests.{ne_eqb}
use Rattle.model.specs.Basic.{exists, keep}
use Rattle.model.specs.Predicate.{Pred, all, none, eq, num, old, new, preds, all_of, new_word, words, words_all, words_of, operands, node_count, depth}
use Rattle.model.specs.Model.{Edge, Automaton, Model}
use Rattle.model.specs.Rules.{Taker}
use Rattle.model.specs.Lawful.{Lawful, LawfulAutomaton}
use Rattle.model.specs.Lines.{edge_line, compose_line, automaton_lines}
use Rattle.model.specs.Table.{code, pred_words, line_words, sheet_words}
use Rattle.model.specs.Moves.{under, alone}
use Rattle.model.specs.Linear.{pointer, pointer_moves, merged_edge}
use Rattle.model.proofs.Tests.{exists_append}
use Rattle.model.proofs.Lists.{keep_out}
use Rattle.model.proofs.LinearLimits.{preds_count}
use Rattle.model.proofs.Pointers.{pointers_length}
use Rattle.model.proofs.Sizes.{words_fit}
use Rattle.table_places.specs.Outline.{reach, nodes_place, after_predicate, update_place, first_edge, edges_at, after_automaton, first_automaton}
use Rattle.table_places.specs.Layout.{layout_of}
use Rattle.table_places.proofs.OutlineLaws as O
use Rattle.table_places.proofs.OutlineLaws.{words_of as lines_of, edge_words, automaton_words, sheet_parts, from_stands, to_stands, action_stands, update_stands, edge_count, first_edge_lem, after_automaton_lem}
use Rattle.table_places.proofs.LayoutLaws.{all_automata}
use Rattle.node_words.specs.declared.Node.TheVariants.{New}
use Rattle.node_words.specs.Nodes.{word_for}
use Rattle.node_words.proofs.NodeLaws.{new_held}
use Rattle.merge_append.specs.Runs.{nodes_at}
use Rattle.merge_append.specs.NodeWords.{all_node, new_node, pointer_of, most, capped}
use Rattle.merge_append.proofs.NodeLaws.{capped_is}
use Rattle.merge_takers.specs.Taking.{is_under, still, edge_under, taken_at, taken_from, takers}
use Rattle.merge_edges.specs.Edge.{update_at, move_at, updates_at, moves_at, taker_nodes, takers_nodes, taker_operands, takers_operands, edge_by, update_deep, updates_deep}
use Rattle.merge_table.proofs.Standing.{narrow_is, run_length, nodes_stand, automata_cons, Along, along_first, along_rest}
use Rattle.merge_table.proofs.HeadIs.{pointer_sum, laid_variables, automata_stand, laid_edges}
use Rattle.merge_table.proofs.ClausesAre.{capped_most, capped_add, codes, codes_append, codes_cons, number_code, old_code, all_code}
use Rattle.merge_table.proofs.DepthsAre.{Readable, readable, deeper_stands}
use Rattle.merge_table.proofs.PlacesAre.{Placed, absent, taking, PlacedAll, no_more, one_more_lem}

-- past the last edge under an action; no valid pick names it
abbrev pub no_edge : Edge
no_edge = record { from = 0; action = 0; to = 0; update = all none }

-- what an automaton takes by its pick: nothing by 0, edge j of those under the action by 1 + j
unfoldable pub taker_by : (action i : ℕ) → Automaton → (pick : ℕ) → List Taker
taker_by action i x zero = []
taker_by action i x (suc j) = alone i (get_or (under action x.edges) j no_edge)

-- the takers among some automata, from automaton i on
unfoldable pub takers_from : (action : ℕ) (picks : List ℕ) (i : ℕ) → List Automaton → List Taker
takers_from action picks i [] = []
takers_from action picks i (x ∷ xs) = taker_by action i x (get_or picks i 0) ++ takers_from action picks (suc i) xs

-- each pick is of an edge that there is
unfoldable pub Valid : (action : ℕ) (picks : List ℕ) (i : ℕ) → List Automaton → Type 0
Valid action picks i [] = Unit
Valid action picks i (x ∷ xs) = (get_or picks i 0 ≤ length (under action x.edges)) × Valid action picks (suc i) xs

-- no place of an edge is 0
reach_above : (t : List ℕ) (a n : ℕ) → 1 ≤ length t → 1 ≤ a + n → 1 ≤ reach t a n
unfolding reach
reach_above t a n h k = go (leb (a + n) (length t)) refl
  where
    go : (b : Bool) → leb (a + n) (length t) ≡ b → 1 ≤ reach t a n
    go true e = rw (e, reach) k
    go false e = rw (e, reach) h

under_above : (t : List ℕ) (action j n at : ℕ) → 1 ≤ length t → 1 ≤ at → 1 ≤ edge_under t action j n at
unfolding edge_under after_predicate nodes_place
under_above t action j zero at h k = h
under_above t action j (suc n) at h k = go (is_under t action at && eqb j 0) (under_above t action (still (is_under t action at) j) n (after_predicate t (update_place t at)) h next)
  where
    first : 1 ≤ nodes_place t (update_place t at)
    first = reach_above t (update_place t at) 1 h (omega arith)

    next : 1 ≤ after_predicate t (update_place t at)
    next = reach_above t (nodes_place t (update_place t at)) (get_or t (update_place t at) 0) h (omega (arith, first))

    go : (b : Bool) → 1 ≤ edge_under t action (still (is_under t action at) j) n (after_predicate t (update_place t at))
        → 1 ≤ elim b as (λ c. ℕ) [ true ↦ at | false ↦ edge_under t action (still (is_under t action at) j) n (after_predicate t (update_place t at)) ]
    go true i = k
    go false i = i

-- where edge j under the action stands, with n words after it at least
abbrev Stands : List ℕ → ℕ → Edge → ℕ → Type 0
Stands t at e n = (rest : List ℕ) × (drop at t ≡ line_words (edge_line e) ++ rest) × (n ≤ length rest)

pub under_yes : (action : ℕ) (e : Edge) (es : List Edge) → eqb e.action action ≡ true → under action (e ∷ es) ≡ e ∷ under action es
unfolding under keep
under_yes action e es h = rw (h, keep)

pub under_no : (action : ℕ) (e : Edge) (es : List Edge) → eqb e.action action ≡ false → under action (e ∷ es) ≡ under action es
unfolding under keep
under_no action e es h = rw (h, keep)

-- one step of the search
module _ (t : List ℕ) (action n at : ℕ) where
  abbrev next_edge : ℕ
  next_edge = after_predicate t (update_place t at)

  step_here : is_under t action at ≡ true → edge_under t action 0 (suc n) at ≡ at
  unfolding edge_under
  step_here q = rw (q, edge_under)

  step_on : (k : ℕ) → is_under t action at ≡ true → edge_under t action (suc k) (suc n) at ≡ edge_under t action k n next_edge
  unfolding edge_under still
  step_on k q =
      let one : suc k - 1 ≡ k = omega arith in
      let z : eqb (suc k) 0 ≡ false = ne_eqb (suc k) 0 (λ y. absurd (omega arith)) in
      let s : still (is_under t action at) (suc k) ≡ k = rw (q, z, still) one in
      rw (q, z, edge_under) (ap (λ j. edge_under t action j n next_edge) s)

  step_past : (j : ℕ) → is_under t action at ≡ false → edge_under t action j (suc n) at ≡ edge_under t action j n next_edge
  unfolding edge_under still
  step_past j q =
      let s : still (is_under t action at) j ≡ j = rw (q, still) in
      rw (q, edge_under) (ap (λ i. edge_under t action i n next_edge) s)

-- the first of some edges
module _ (t : List ℕ) (at : ℕ) (x : Edge) (es : List Edge) (rest : List ℕ) (e : drop at t ≡ edge_words (x ∷ es) ++ rest) where
  pub first_there : drop at t ≡ line_words (edge_line x) ++ (edge_words es ++ rest)
  unfolding flat_map
  first_there = e ∙ append_assoc (line_words (edge_line x)) (edge_words es) rest

  pub first_under : (action : ℕ) → is_under t action at ≡ eqb x.action action
  unfolding is_under
  first_under action = ap (λ a. eqb a action) (action_stands t (edge_words es ++ rest) x at first_there)

  pub first_past : drop (after_predicate t (update_place t at)) t ≡ edge_words es ++ rest
  first_past = O.next_edge t (edge_words es ++ rest) x at first_there

under_stands : (t : List ℕ) (action : ℕ) (es : List Edge) (j at : ℕ) (rest : List ℕ) → j < length (under action es) → drop at t ≡ edge_words es ++ rest
    → Stands t (edge_under t action j (length es) at) (get_or (under action es) j no_edge) (length rest)
under_stands t action [] j at rest h e = let z : length (under action []) ≡ 0 = unfold under keep in refl in absurd (omega arith)
under_stands t action (x ∷ es) j at rest h e = go (λ k l. under_stands t action es k (after_predicate t (update_place t at)) rest l (first_past t at x es rest e)) (eqb x.action action) refl
  where
    Later : Type 0
    Later = (k : ℕ) → k < length (under action es) → Stands t (edge_under t action k (length es) (after_predicate t (update_place t at))) (get_or (under action es) k no_edge) (length rest)

    found : Later → (k : ℕ) → eqb x.action action ≡ true → k < length (x ∷ under action es)
        → Stands t (edge_under t action k (suc (length es)) at) (get_or (x ∷ under action es) k no_edge) (length rest)
    found later zero q l =
        let u : is_under t action at ≡ true = first_under t at x es rest e action ∙ q in
        (edge_words es ++ rest, ap (λ (p : ℕ). drop p t) (step_here t action (length es) at u) ∙ first_there t at x es rest e, omega (arith, length-append (edge_words es) rest))
    found later (suc k) q l =
        let u : is_under t action at ≡ true = first_under t at x es rest e action ∙ q in
        let ih = later k (omega arith) in
        (ih.0, ap (λ (p : ℕ). drop p t) (step_on t action (length es) at k u) ∙ ih.1, ih.2)

    go : Later → (b : Bool) → eqb x.action action ≡ b → Stands t (edge_under t action j (suc (length es)) at) (get_or (under action (x ∷ es)) j no_edge) (length rest)
    go later true q = rw (under_yes action x es q) (found later j q (rw (under_yes action x es q) at h))
    go later false q =
        let u : is_under t action at ≡ false = first_under t at x es rest e action ∙ q in
        let ih = later j (rw (under_no action x es q) at h) in
        rw (under_no action x es q) (ih.0, ap (λ (p : ℕ). drop p t) (step_past t action (length es) at j u) ∙ ih.1, ih.2)

-- What one automaton's place says, and adds to the edge: its taker's update, pointer moves, operands, and depth.
record Adds (m : Model) (t : List ℕ) (i place : ℕ) (ts : List Taker) : Type 0 where
  placed : Placed t i place ts
  updates : update_at t place ≡ codes (map (λ y. y.edge.update) ts)
  moves : move_at t (pointer_of (length m.variables) i) place ≡ codes (pointer_moves m ts)
  operands_add : (sum : ℕ) → sum ≤ most → taker_operands sum place ≡ capped (sum + 3 * length ts)
  deep : update_deep t place ≡ exists (λ y. ltb 23 (depth y.edge.update)) ts

adds_none : (m : Model) (t : List ℕ) (i : ℕ) → Adds m t i 0 []
unfolding update_at move_at taker_operands update_deep exists preds words words_all words_of pointer_moves
adds_none m t i = record { placed = absent; updates = refl; moves = refl; operands_add = λ sum h. rw (add-zero sum) (capped_is sum h); deep = refl }

new_code : (k : ℕ) → k < 65536 → new_node k ≡ code (new_word k)
unfolding new_node
new_code k h = ap (λ (n : ℕ). word_for (New n)) (narrow_is k (omega arith)) ∙ new_held k (omega arith)

module _ (m : Model) (t : List ℕ) (i place : ℕ) (e : Edge) (rest : List ℕ) (at : drop place t ≡ line_words (edge_line e) ++ rest) (above : 1 ≤ place) (few : place ≤ most) where
  isnt : eqb place 0 ≡ false
  isnt = ne_eqb place 0 (λ z. absurd (omega arith))

  adds_one : length m.variables < 32768 → i < 32768 → e.from < 65536 → e.to < 65536 → Readable e.update → Adds m t i place (alone i e)
  unfolding update_at move_at taker_operands update_deep exists preds words words_all words_of pointer_moves
  adds_one hv hi hf ht hd =
      let k : pointer_of (length m.variables) i ≡ pointer m i = pointer_sum (length m.variables) i (omega arith) (omega arith) ∙ (unfold pointer in refl) in
      let kh : pointer m i < 65536 = small hv hi in
      let update-place = update_stands t rest e place at in
      let u : nodes_at t (update_place t place) ≡ map code (words e.update) = nodes_stand t (update_place t place) e.update rest update-place in
      let one : codes (e.update ∷ []) ≡ map code (words e.update) = codes_cons e.update [] ∙ append-nil (map code (words e.update)) in
      record {
        placed = taking place e rest at above few;
        updates = rw (isnt, update_at) (u ∙ sym one);
        moves = rw (isnt, move_at, k, from_stands t rest e place at, to_stands t rest e place at, old_code (pointer m i) kh, new_code (pointer m i) kh, number_code e.from hf, number_code e.to ht);
        operands_add = λ sum h. rw (isnt, taker_operands) (ap capped (omega arith));
        deep = rw (isnt, update_deep) (deeper_stands t e.update 23 (update_place t place) rest hd update-place ∙ sym (or-false (ltb 23 (depth e.update))));
      }
    where
      small : length m.variables < 32768 → i < 32768 → pointer m i < 65536
      small a b = unfold pointer in omega arith

-- what stands in a list is of it
pub listed_at : {A : Type 0} (d : A) (l : List A) (k : ℕ) → k < length l → Memᴰ (get_or l k d) l
listed_at d [] k h = absurd (omega arith)
listed_at d (y ∷ l) zero h = Memᴰ.head refl
listed_at d (y ∷ l) (suc k) h = Memᴰ.tail (listed_at d l k (omega arith))

-- an edge has words
edge_some : (d : Edge) → 1 ≤ length (line_words (edge_line d))
unfolding line_words
edge_some d = omega arith

-- the edges that stand at a lawful automaton's place
taker_adds : (m : Model) (t : List ℕ) (A action i pick at : ℕ) (x : Automaton) (rest : List ℕ) → LawfulAutomaton m.variables A x → length m.variables < 32768 → i < 32768
    → 1 ≤ length t → length t ≤ most + length rest → drop at t ≡ lines_of (automaton_lines x) ++ rest → pick ≤ length (under action x.edges) → Adds m t i (taken_at t action pick (edges_at t at)) (taker_by action i x pick)
unfolding taken_at taker_by keep under
taker_adds m t A action i zero at x rest lawful hv hi some long e few = adds_none m t i
taker_adds m t A action i (suc j) at x rest lawful hv hi some long e few =
    let z : eqb (suc j) 0 ≡ false = ne_eqb (suc j) 0 (λ y. absurd (omega arith)) in
    let one : suc j - 1 ≡ j = omega arith in
    let n : get_or t (edges_at t at) 0 ≡ length x.edges = edge_count t rest x at e in
    let first = first_edge t (edges_at t at) in
    let place = edge_under t action j (length x.edges) first in
    let s = under_stands t action x.edges j first rest (omega arith) (first_edge_lem t rest x at e) in
    let above = under_above t action j (length x.edges) first some (unfold first_edge in reach_above t (edges_at t at) 1 some (omega arith)) in
    let d = get_or (under action x.edges) j no_edge in
    let l = lawful.edges d (keep_out (λ y. eqb y.action action) x.edges (listed_at no_edge (under action x.edges) j (omega arith))).0 in
    let few_locations = lawful.few_locations in
    let words : length t - place ≡ length (line_words (edge_line d)) + length s.0 = sym (length-drop place t) ∙ ap length s.1 ∙ length-append (line_words (edge_line d)) s.0 in
    let low : place ≤ most = omega (arith, words, edge_some d, s.2) in
    let it : taken_at t action (suc j) (edges_at t at) ≡ place = rw (z, one, n, taken_at) in
    rw it (adds_one m t i place d s.0 s.1 above low hv hi (omega (arith, l.from)) (omega (arith, l.to)) (readable d.update l.update))

-- What the places of all automata say and add.
pub record AddsAll (m : Model) (t : List ℕ) (i : ℕ) (places : List ℕ) (ts : List Taker) : Type 0 where
  pub placed : PlacedAll t i places ts
  pub updates : updates_at t places ≡ codes (map (λ y. y.edge.update) ts)
  pub moves : moves_at t (length m.variables) i places ≡ codes (pointer_moves m ts)
  pub operands_add : (sum : ℕ) → sum ≤ most → takers_operands sum places ≡ capped (sum + 3 * length ts)
  pub deep : updates_deep t places ≡ exists (λ y. ltb 23 (depth y.edge.update)) ts

moves_append : (m : Model) (xs ys : List Taker) → pointer_moves m (xs ++ ys) ≡ pointer_moves m xs ++ pointer_moves m ys
unfolding pointer_moves
moves_append m [] ys = refl
moves_append m (x ∷ xs) ys =
    ap (λ (l : List Pred). eq (old (pointer m x.automaton)) (num (pos x.edge.from)) ∷ eq (new (pointer m x.automaton)) (num (pos x.edge.to)) ∷ l) (moves_append m xs ys)

adds_more : (m : Model) (t : List ℕ) (i p : ℕ) (ps : List ℕ) (a b : List Taker) → Adds m t i p a → AddsAll m t (suc i) ps b → AddsAll m t i (p ∷ ps) (a ++ b)
unfolding updates_at moves_at takers_operands updates_deep
adds_more m t i p ps a b one others =
    let u : Taker → Pred = λ y. y.edge.update in
    let deep_one : Taker → Bool = λ y. ltb 23 (depth y.edge.update) in
    record {
      placed = one_more_lem i p ps a b one.placed others.placed;
      updates = ap₂ (λ (k l : List ℕ). k ++ l) one.updates others.updates ∙ sym (ap codes (map-append u a b) ∙ codes_append (map u a) (map u b));
      moves = rw (add-one i) (ap₂ (λ (k l : List ℕ). k ++ l) one.moves others.moves ∙ sym (ap codes (moves_append m a b) ∙ codes_append (pointer_moves m a) (pointer_moves m b)));
      operands_add = λ sum h.
          let size : sum + 3 * length a + 3 * length b ≡ sum + 3 * length (a ++ b) = omega (arith, length-append a b) in
          ap (λ s. takers_operands s ps) (one.operands_add sum h) ∙ others.operands_add (capped (sum + 3 * length a)) (capped_most (sum + 3 * length a)) ∙
          capped_add (sum + 3 * length a) (3 * length b) ∙ ap capped size;
      deep = ap₂ (λ (k l : Bool). k || l) one.deep others.deep ∙ sym (exists_append deep_one a b);
    }

adds_zeros : (m : Model) (t : List ℕ) (i k : ℕ) → AddsAll m t i (replicate k 0) []
unfolding updates_at moves_at takers_operands updates_deep exists preds words words_all words_of pointer_moves
adds_zeros m t i zero = record { placed = no_more i; updates = refl; moves = refl; operands_add = λ sum h. rw (add-zero sum) (capped_is sum h); deep = refl }
adds_zeros m t i (suc k) = adds_more m t i 0 (replicate k 0) [] [] (adds_none m t i) (adds_zeros m t (suc i) k)

adds_all : (m : Model) (t edges : List ℕ) (A action : ℕ) (picks : List ℕ) (xs : List Automaton) (i at k : ℕ) (rest : List ℕ) → ((x : Automaton) → Memᴰ x xs → LawfulAutomaton m.variables A x)
    → length m.variables < 32768 → i + length xs < 32768 → 1 ≤ length t → length t ≤ most + length rest → drop at t ≡ automaton_words xs ++ rest → Along t (edges_at t) edges i at (length xs) → Valid action picks i xs
    → AddsAll m t i (taken_from t edges action picks i (length xs) ++ replicate k 0) (takers_from action picks i xs)
unfolding taken_from takers_from Valid
adds_all m t edges A action picks [] i at k rest lawful hv hi some long e starts valid = adds_zeros m t i k
adds_all m t edges A action picks (x ∷ xs) i at k rest lawful hv hi some long e starts valid =
    let f = automata_cons t at x xs rest e in
    let others = automaton_words xs ++ rest in
    let one = taker_adds m t A action i (get_or picks i 0) at x others (lawful x (Memᴰ.head refl)) hv (omega arith) some (omega (arith, length-append (automaton_words xs) rest)) f valid.0 in
    let more = adds_all m t edges A action picks xs (suc i) (after_automaton t at) k rest (λ y q. lawful y (Memᴰ.tail q)) hv (omega arith) some long (after_automaton_lem t others x at f)
    (along_rest t (edges_at t) edges i at (length xs) starts) valid.1 in
    rw (add-one i, along_first t (edges_at t) edges i at (length xs) starts)
    (adds_more m t i (taken_at t action (get_or picks i 0) (edges_at t at)) _ (taker_by action i x (get_or picks i 0)) (takers_from action picks (suc i) xs) one more)

-- on any words: the count of the nodes is the number of words
moves_size : (t : List ℕ) (k place : ℕ) (sum : ℕ) → sum ≤ most → taker_nodes t sum place ≡ capped (sum + (length (update_at t place) + length (move_at t k place)))
unfolding taker_nodes update_at move_at nodes_at
moves_size t k place sum h = go (eqb place 0) refl
  where
    go : (b : Bool) → eqb place 0 ≡ b → taker_nodes t sum place ≡ capped (sum + (length (update_at t place) + length (move_at t k place)))
    go true q = rw (q, taker_nodes, update_at, move_at) (capped_is sum h ∙ ap capped (omega arith))
    go false q =
        let n = run_length t (nodes_place t (update_place t place)) (get_or t (update_place t place) 0) in
        rw (q, taker_nodes, update_at, move_at) (capped_add (sum + 6) (get_or t (update_place t place) 0) ∙ ap capped (omega arith))

nodes_size : (t : List ℕ) (v i : ℕ) (places : List ℕ) (sum : ℕ) → sum ≤ most → takers_nodes t sum places ≡ capped (sum + (length (updates_at t places) + length (moves_at t v i places)))
unfolding takers_nodes updates_at moves_at
nodes_size t v i [] sum h = rw (add-zero sum) (capped_is sum h)
nodes_size t v i (p ∷ ps) sum h =
    let one = moves_size t (pointer_of v i) p sum h in
    let s = sum + (length (update_at t p) + length (move_at t (pointer_of v i) p)) in
    let few : taker_nodes t sum p ≤ most = rw one (capped_most s) in
    let others = length (updates_at t ps) + length (moves_at t v (i + 1) ps) in
    let size : s + others ≡ sum + (length (update_at t p ++ updates_at t ps) + length (move_at t (pointer_of v i) p ++ moves_at t v (i + 1) ps)) =
    omega (arith, length-append (update_at t p) (updates_at t ps), length-append (move_at t (pointer_of v i) p) (moves_at t v (i + 1) ps)) in
    nodes_size t v (i + 1) ps (taker_nodes t sum p) few ∙ ap (λ x. capped (x + others)) one ∙ capped_add s others ∙ ap capped size

-- how many places, zeros and takers there are
abbrev pub zeros : ℕ → List ℕ
zeros k = replicate k 0

taken_length : (t edges : List ℕ) (action : ℕ) (picks : List ℕ) (i n : ℕ) → length (taken_from t edges action picks i n) ≡ n
unfolding taken_from
taken_length t edges action picks i zero = refl
taken_length t edges action picks i (suc n) = ap suc (taken_length t edges action picks (i + 1) n)

pub drop_zeros : (n k : ℕ) → n ≤ k → drop n (zeros k) ≡ zeros (k - n)
drop_zeros zero k h = let z : k - 0 ≡ k = omega arith in rw z
drop_zeros (suc n) zero h = absurd (omega arith)
drop_zeros (suc n) (suc k) h = let z : suc k - suc n ≡ k - n = omega arith in rw z (drop_zeros n k (omega arith))

one_few : (action i : ℕ) (x : Automaton) (pick : ℕ) → length (taker_by action i x pick) ≤ 1
unfolding taker_by
one_few action i x zero = omega arith
one_few action i x (suc j) = omega arith

named_few : (action : ℕ) (picks : List ℕ) (i : ℕ) (xs : List Automaton) → length (takers_from action picks i xs) ≤ length xs
unfolding takers_from
named_few action picks i [] = omega arith
named_few action picks i (x ∷ xs) =
    omega (arith, length-append (taker_by action i x (get_or picks i 0)) (takers_from action picks (suc i) xs), one_few action i x (get_or picks i 0), named_few action picks (suc i) xs)

-- The laws of a merged edge, where the picks are valid.
module _ (m : Model) (lawful : Lawful m) (t rest : List ℕ) (e : t ≡ sheet_words m ++ rest) (action : ℕ) (picks : List ℕ) (valid : Valid action picks 0 m.automata) where
  abbrev named : List Taker
  named = takers_from action picks 0 m.automata

  abbrev there : List ℕ
  there = takers t (layout_of t) action picks

  places_are : there ≡ taken_from t (layout_of t).edges action picks 0 (length m.automata) ++ replicate (16 - length m.automata) 0
  unfolding takers
  places_are =
      let n = length m.automata in
      let few = lawful.few_automata in
      let edges = (layout_of t).edges in
      let ps = taken_from t edges action picks 0 n in
      let size : length ps ≡ n = taken_length t edges action picks 0 n in
      let end : 0 + length ps ≡ n = omega arith in
      let room : 0 + length ps ≤ length (zeros 16) = omega (arith, length-replicate {A = ℕ} 16 0) in
      ap (λ c. sets (zeros 16) 0 (taken_from t edges action picks 0 c)) (all_automata m lawful t rest e) ∙ sets-eq ps (zeros 16) 0 room ∙
      ap (λ (l : List ℕ). ps ++ l) (ap (λ c. drop c (zeros 16)) end ∙ drop_zeros n 16 few)

  -- a sheet has words
  some_words : 1 ≤ length t
  some_words = omega (arith, ap length (sheet_parts t rest m e))

  pub takers_add : AddsAll m t 0 (takers t (layout_of t) action picks) named
  takers_add =
      let fv = lawful.few_variables in
      let fn = lawful.few_automata in
      let tree = line_words (compose_line m.tree) in
      let long : length t ≤ most + length (tree ++ rest) = omega (arith, ap length e, length-append (sheet_words m) rest, length-append tree rest, words_fit m lawful) in
      rw places_are (adds_all m t (layout_of t).edges m.actions action picks m.automata 0 (first_automaton t) (16 - length m.automata) (tree ++ rest) lawful.automata (omega arith) (omega arith) some_words long
      (automata_stand m lawful t rest e) (laid_edges m lawful t rest e) valid)

  -- row 33 for this edge
  pub edge_deep : updates_deep t (takers t (layout_of t) action picks) ≡ exists (λ y. ltb 23 (depth y.edge.update)) named
  edge_deep = takers_add.deep

  abbrev parts : List Pred
  parts = map (λ y. y.edge.update) named ++ pointer_moves m named

  nodes_read : takers_nodes t 1 (takers t (layout_of t) action picks) ≡ capped (node_count (all (preds parts)))
  unfolding node_count words words_all words_of
  nodes_read =
      let a = takers_add in
      let us = map (λ (y : Taker). y.edge.update) named in
      let size : 1 + (length (codes us) + length (codes (pointer_moves m named))) ≡ suc (length (words_all (preds parts))) =
      omega (arith, length-append (codes us) (codes (pointer_moves m named)), ap length (codes_append us (pointer_moves m named)), length-map (words_all (preds parts)) code) in
      nodes_size t (length m.variables) 0 there 1 (omega arith) ∙
      ap₂ (λ (k l : List ℕ). capped (1 + (length k + length l))) a.updates a.moves ∙ ap capped size

  -- row 34 for this edge
  pub edge_nodes : takers_nodes t 1 (takers t (layout_of t) action picks) ≡ capped (node_count (merged_edge m action named).update)
  unfolding merged_edge
  edge_nodes = nodes_read

  pub edge_words_lem : node_count (merged_edge m action named).update ≤ most → edge_by t (layout_of t).variables action (takers t (layout_of t) action picks) ≡ line_words (edge_line (merged_edge m action named))
  unfolding edge_by merged_edge line_words pred_words words words_all words_of
  edge_words_lem few =
      let a = takers_add in
      let us = map (λ (y : Taker). y.edge.update) named in
      let fn = lawful.few_automata in
      let fewer : length named ≤ length m.automata = named_few action picks 0 m.automata in
      let total : 3 * length named ≡ operands (preds parts) =
      omega (arith, preds_count parts, length-append us (pointer_moves m named), length-map named (λ (y : Taker). y.edge.update), pointers_length m named) in
      let small : 3 * length named ≤ most = omega arith in
      let node : all_node (takers_operands 0 there) ≡ code (all_of (operands (preds parts))) =
      ap all_node (a.operands_add 0 (omega arith) ∙ ap capped (omega arith) ∙ sym (capped_is (3 * length named) small) ∙ total) ∙ all_code (operands (preds parts)) (omega arith) in
      let nodes : takers_nodes t 1 (takers t (layout_of t) action picks) ≡ node_count (all (preds parts)) = nodes_read ∙ sym (capped_is (node_count (all (preds parts))) few) in
      let both : updates_at t there ++ moves_at t (layout_of t).variables 0 there ≡ codes parts =
      ap₂ (λ (k l : List ℕ). k ++ l) a.updates (ap (λ v. moves_at t v 0 there) (laid_variables m lawful t rest e) ∙ a.moves) ∙ sym (codes_append us (pointer_moves m named)) in
      rw (nodes, node, both)
