-- The merged sheet is, repeats and all, the merged sheet of the sheet whose automata have each edge once.
use mathlib.Core.Path.{◌≡◌, refl, sym, ap, ap₂, ◌∙◌, subst, fun_ext}
use mathlib.Core.List.Memᴰ
use mathlib.Core.List.{List, [], ◌∷◌, ◌++◌, map, flat_map, map-map, Memᴰ}
use Prim.Native.Nat.{ℕ, suc, ◌≤◌}
use native.Mathlib.Omega.{arith}
use lib.ListN.{length, length-map, get_or-map}
use Rattle.model.specs.Basic.{keep, once, sum, count_up}
use Rattle.model.specs.Predicate.{Pred, all, preds, node_count}
use Rattle.model.specs.Model.{Model, Location, Edge, Automaton, automaton, nobody, in_set, edge_total}
use Rattle.model.specs.Lawful.{automaton_nodes, node_total, LawfulAutomaton, Lawful}
use Rattle.model.specs.Rules.{Taker}
use Rattle.model.specs.Composition.{Tree, par, syn, ini, leaf, starts}
use Rattle.model.specs.Equal.{same_edge}
use Rattle.model.specs.Moves.{move_count, distinct_count}
use Rattle.model.specs.Linear.{pointer_range, pointer_owner, pointer, at_locations, at_automata, merged_init, merged_inv, pointer_moves, merged_edge, edges_with_repeats, merged_edges, merged_count, linear, merged_preds, row31, row32, row33, row34, merge_fault}
use Rattle.model.specs.Repeats.{distinct_edges, distinct, count_with_repeats, linear_with_repeats, preds_with_repeats, row32_with_repeats, row33_with_repeats, row34_with_repeats, fault_with_repeats}
use Rattle.model.proofs.Lists.{keep_ext}
use Rattle.model.proofs.LimitsLaws.{Members}
use Rattle.model.proofs.Once.{once_out, length_once, sum_once, once_same}
use Rattle.model.proofs.Numbered.{numbered}
use Rattle.model.proofs.Count.{repeats_counted}
use Rattle.model.proofs.OnceMoves.{set_distinct, under_distinct, moves_distinct}
use Rattle.model.proofs.OnceEdges.{merged_once}

-- an automaton without repeats is lawful
lawful_automaton : (m : Model) (x : Automaton) → LawfulAutomaton m.variables m.actions x → LawfulAutomaton m.variables m.actions (distinct_edges x)
unfolding distinct_edges
lawful_automaton m x h = record {
  sync = h.sync;
  some_location = h.some_location;
  few_locations = h.few_locations;
  locations = h.locations;
  edges = λ e i. h.edges e (once_out same_edge x.edges i);
}

-- there are no more edges and nodes than with repeats
edges_fewer : (xs : List Automaton) → edge_total (map distinct_edges xs) ≤ edge_total xs
unfolding edge_total distinct_edges
edges_fewer [] = omega arith
edges_fewer (x ∷ xs) = let ih = edges_fewer xs in let k = length_once same_edge x.edges in omega arith

nodes_fewer : (xs : List Automaton) → node_total (map distinct_edges xs) ≤ node_total xs
unfolding node_total automaton_nodes sum distinct_edges
nodes_fewer [] = omega arith
nodes_fewer (x ∷ xs) = let ih = nodes_fewer xs in let k = sum_once same_edge (λ (e : Edge). node_count e.update) x.edges in omega arith

-- each of its edges was one before
edge_kept : (m : Model) (i : ℕ) (e : Edge) → Memᴰ e (automaton (distinct m) i).edges → Memᴰ e (automaton m i).edges
unfolding distinct distinct_edges once
edge_kept m i e j = once_out same_edge (automaton m i).edges (subst (λ (x : Automaton). Memᴰ e x.edges) (get_or-map distinct_edges m.automata i nobody) j)

-- the sheet without repeats is lawful
pub lawful_distinct : (m : Model) → Lawful m → Lawful (distinct m)
unfolding distinct
lawful_distinct m h =
    let n : length (map distinct_edges m.automata) ≡ length m.automata = length-map m.automata distinct_edges in
    record {
      format_from = h.format_from;
      format_to = h.format_to;
      few_actions = h.few_actions;
      few_variables = h.few_variables;
      ranges = h.ranges;
      owners_are = h.owners_are;
      owners = rw n h.owners;
      some_automaton = omega (arith, h.some_automaton);
      few_automata = omega (arith, h.few_automata);
      automata = λ x i.
          let r = Memᴰ.of_map distinct_edges m.automata i in
          subst (LawfulAutomaton m.variables m.actions) r.2 (lawful_automaton m r.0 (h.automata r.0 r.1));
      own = λ i l e j. h.own i (rw n at l) e (edge_kept m i e j);
      few_edges = omega (arith, h.few_edges, edges_fewer m.automata);
      few_nodes = omega (arith, h.few_nodes, nodes_fewer m.automata);
      starts = h.starts;
      tree = rw n h.tree;
    }

-- what a merged sheet has of the locations, the sets and the pointers is the same
module _ (m : Model) where
  locations_same : (part : Location → Pred) (i j : ℕ) (ls : List Location) → at_locations (distinct m) part i j ls ≡ at_locations m part i j ls
  unfolding at_locations pointer distinct
  locations_same part i j [] = refl
  locations_same part i j (l ∷ ls) = rw (locations_same part i (suc j) ls)

  automata_same : (part : Location → Pred) (i : ℕ) (xs : List Automaton) → at_automata (distinct m) part i (map distinct_edges xs) ≡ at_automata m part i xs
  unfolding at_automata distinct_edges
  automata_same part i [] = refl
  automata_same part i (x ∷ xs) = ap₂ (λ k l. k ++ l) (locations_same part i 0 x.locations) (automata_same part (suc i) xs)

  inits_distinct : merged_init (distinct m) ≡ merged_init m
  unfolding merged_init distinct
  inits_distinct = ap (λ (l : List Pred). all (preds (l ++ starts m.tree))) (automata_same (λ l. l.init) 0 m.automata)

  invs_distinct : merged_inv (distinct m) ≡ merged_inv m
  unfolding merged_inv distinct
  invs_distinct = ap (λ (l : List Pred). all (preds l)) (automata_same (λ l. l.inv) 0 m.automata)

  pointers_same : (x : List Taker) → pointer_moves (distinct m) x ≡ pointer_moves m x
  unfolding pointer_moves pointer distinct
  pointers_same [] = refl
  pointers_same (t ∷ x) = rw (pointers_same x)

  edge_same : (a : ℕ) (x : List Taker) → merged_edge (distinct m) a x ≡ merged_edge m a x
  unfolding merged_edge
  edge_same a x = rw (pointers_same x)

  sets_same : keep (λ a. in_set (distinct m) a (distinct m).tree) (count_up 1 (distinct m).actions) ≡ keep (λ a. in_set m a m.tree) (count_up 1 m.actions)
  unfolding distinct
  sets_same = keep_ext _ _ (count_up 1 m.actions) (λ a i. set_distinct m a m.tree)

  ranges_same : map pointer_range (distinct m).automata ≡ map pointer_range m.automata
  unfolding pointer_range distinct distinct_edges
  ranges_same = map-map pointer_range distinct_edges m.automata

  owners_same : map (λ x. pointer_owner m.format) (distinct m).automata ≡ map (λ x. pointer_owner m.format) m.automata
  unfolding distinct
  owners_same = map-map (λ (x : Automaton). pointer_owner m.format) distinct_edges m.automata

-- the different moves are as many as those of the sheet without repeats
counts_distinct : (m : Model) (a : ℕ) (c : Tree) → distinct_count m a c ≡ move_count (distinct m) a c
unfolding distinct_count move_count
counts_distinct m a (par c d) = rw (set_distinct m a c, set_distinct m a d, counts_distinct m a c, counts_distinct m a d)
counts_distinct m a (syn list c) = counts_distinct m a c
counts_distinct m a (ini p c) = counts_distinct m a c
counts_distinct m a (leaf k) = ap (length {A = Edge}) (under_distinct m a k)

module _ (m : Model) (lawful : Lawful m) where
  -- the merged edges are those of the sheet without repeats, every one of them
  pub edges_distinct : merged_edges m ≡ edges_with_repeats (distinct m)
  unfolding edges_with_repeats distinct
  edges_distinct =
      merged_once m
      ∙ ap (λ (g : ℕ → List Edge). flat_map g (count_up 0 (suc m.actions))) (fun_ext λ a.
      ap₂ (λ f l. map f l) (fun_ext λ x. sym (edge_same m a x)) (moves_distinct m a m.tree 0 (numbered m.tree (length m.automata) lawful.tree.in_order)))

  -- so they are counted without being listed (row 32)
  pub count_distinct : merged_count m ≡ count_with_repeats (distinct m)
  unfolding merged_count count_with_repeats distinct
  count_distinct = ap (λ (f : ℕ → ℕ). sum (map f (count_up 0 (suc m.actions)))) (fun_ext λ a. counts_distinct m a m.tree)

  pub count_is : length (merged_edges m) ≡ merged_count m
  count_is = ap (length {A = Edge}) edges_distinct ∙ repeats_counted (distinct m) ∙ sym count_distinct

  -- the merged sheet is that of the sheet without repeats
  pub linear_distinct : linear m ≡ linear_with_repeats (distinct m)
  unfolding linear linear_with_repeats distinct
  linear_distinct = rw (inits_distinct m, invs_distinct m, sets_same m, ranges_same m, owners_same m, edges_distinct)

  -- so are its predicates, and the rows that are tried of it
  preds_distinct : merged_preds m ≡ preds_with_repeats (distinct m)
  unfolding merged_preds preds_with_repeats
  preds_distinct = rw (inits_distinct m, invs_distinct m, edges_distinct)

  row31_distinct : row31 m ≡ row31 (distinct m)
  unfolding row31 distinct
  row31_distinct = rw (length-map m.automata distinct_edges)

  row32_distinct : row32 m ≡ row32_with_repeats (distinct m)
  unfolding row32 row32_with_repeats
  row32_distinct = rw count_distinct

  row33_distinct : row33 m ≡ row33_with_repeats (distinct m)
  unfolding row33 row33_with_repeats
  row33_distinct = rw preds_distinct

  row34_distinct : row34 m ≡ row34_with_repeats (distinct m)
  unfolding row34 row34_with_repeats
  row34_distinct = rw preds_distinct

  -- it is refused by the same row
  pub fault_distinct : merge_fault m ≡ fault_with_repeats (distinct m)
  unfolding merge_fault fault_with_repeats
  fault_distinct = rw (row31_distinct, row32_distinct, row33_distinct, row34_distinct)

-- automata that have no edge twice are not changed
automata_unchanged : (xs : List Automaton) → Members (λ x. length (once same_edge x.edges) ≡ length x.edges) xs → map distinct_edges xs ≡ xs
unfolding distinct_edges
automata_unchanged [] h = refl
automata_unchanged (x ∷ xs) h =
    let e : once same_edge x.edges ≡ x.edges = once_same same_edge x.edges (h x (Memᴰ.head refl)) in
    ap₂ (λ y l. y ∷ l) (ap (λ (es : List Edge). record { sync = x.sync; locations = x.locations; edges = es }) e) (automata_unchanged xs (λ y i. h y (Memᴰ.tail i)))

-- a sheet whose automata have no edge twice is its own
pub distinct_same : (m : Model) → ((x : Automaton) → Memᴰ x m.automata → length (once same_edge x.edges) ≡ length x.edges) → distinct m ≡ m
unfolding distinct
distinct_same m h = rw (automata_unchanged m.automata h)
