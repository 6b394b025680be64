-- What stands at the place of one part; and no place is past the table's end.
use mathlib.Core.Path.{◌≡◌, refl, sym, ap, ◌∙◌}
use mathlib.Core.List.{List, [], ◌∷◌, ◌++◌, append_assoc, flat_map}
use mathlib.Core.Option as O
use mathlib.Core.Option.{Option}
use Prim.Native.Nat.{ℕ, zero, suc, ◌≤◌, ◌<◌}
use native.Mathlib.Omega.{arith}
use lib.ListN.{length, get_or, take, drop}
use lib.Seq.{drop-cons, take_at}
use Rattle.model.specs.Composition.{Tree, tree_size}
use Rattle.model.specs.Predicate.{Range}
use Rattle.model.specs.Model.{Location, Edge, Automaton, Model, nowhere, nobody, automaton, owner_of}
use Rattle.model.specs.Lines.{Entry, variable_line, variable_lines, edge_line, compose_line, location_lines, automaton_lines}
use Rattle.model.specs.Table.{pred_words, start_words, line_words, sheet_words}
use Rattle.table_tree.specs.Nodes.{tree_words}
use Rattle.table_places.specs.Outline.{reach, nodes_place, after_predicate, update_place, location_count, first_location, first_edge, location_at, edge_at, edges_at, after_automaton, variables_in, range_at, count_at, automata_in, first_automaton, passed, automaton_at, tree_at}
use Rattle.table_places.proofs.OutlineLaws.{drop_nothing, reach_inside, reached, after_ranges, range_at_lem, tree_at_lem, after_predicate_lem, words_append, words_of, location_words, edge_words, automaton_words, location_at_lem, edge_at_lem, automaton_at_lem}

-- location j, of a list
module _ (t rest : List ℕ) (ls : List Location) (at j : ℕ) (h : j < length ls) (e : drop at t ≡ location_words ls ++ rest) where
  pub init_stands : drop (location_at t at j) t ≡ pred_words (get_or ls j nowhere).init ++ (pred_words (get_or ls j nowhere).inv ++ (location_words (drop (suc j) ls) ++ rest))
  unfolding flat_map location_lines line_words
  init_stands =
      let i = pred_words (get_or ls j nowhere).init in
      let v = pred_words (get_or ls j nowhere).inv in
      let others = location_words (drop (suc j) ls) in
      let l : j ≤ length ls = omega arith in
      location_at_lem t rest ls at j l e ∙ ap (λ (k : List Location). location_words k ++ rest) (drop-cons ls j nowhere h) ∙
      append_assoc i (v ++ others) rest ∙ ap (λ (r : List ℕ). i ++ r) (append_assoc v others rest)

  pub inv_stands : drop (after_predicate t (location_at t at j)) t ≡ pred_words (get_or ls j nowhere).inv ++ (location_words (drop (suc j) ls) ++ rest)
  inv_stands =
      let others = pred_words (get_or ls j nowhere).inv ++ (location_words (drop (suc j) ls) ++ rest) in
      after_predicate_lem t (location_at t at j) (get_or ls j nowhere).init others init_stands

-- edge k, of a list
pub edge_stands : (t rest : List ℕ) (es : List Edge) (at k : ℕ) (d : Edge) → k < length es → drop at t ≡ edge_words es ++ rest
    → drop (edge_at t at k) t ≡ line_words (edge_line (get_or es k d)) ++ (edge_words (drop (suc k) es) ++ rest)
unfolding flat_map
edge_stands t rest es at k d h e =
    let l : k ≤ length es = omega arith in
    edge_at_lem t rest es at k l e ∙ ap (λ (x : List Edge). edge_words x ++ rest) (drop-cons es k d h) ∙
    append_assoc (line_words (edge_line (get_or es k d))) (edge_words (drop (suc k) es)) rest

-- automaton k
pub automaton_stands : (t rest : List ℕ) (m : Model) (k : ℕ) → k < length m.automata → t ≡ sheet_words m ++ rest
    → drop (automaton_at t k) t ≡ words_of (automaton_lines (automaton m k)) ++ (automaton_words (drop (suc k) m.automata) ++ (line_words (compose_line m.tree) ++ rest))
unfolding flat_map
automaton_stands t rest m k h e =
    let l : k ≤ length m.automata = omega arith in
    let after = line_words (compose_line m.tree) ++ rest in
    let others = drop (suc k) m.automata in
    let x = automaton_lines (automaton m k) in
    automaton_at_lem t rest m e k l ∙ ap (λ (xs : List Automaton). automaton_words xs ++ after) (drop-cons m.automata k nobody h) ∙
    ap (λ (ws : List ℕ). ws ++ after) (words_append x (flat_map automaton_lines others)) ∙ append_assoc (words_of x) (automaton_words others) after

-- variable k, and those after it
variables_drop : (vs : List Range) (os : List (Option ℕ)) (k : ℕ) (d : Range) → k < length vs
    → variable_lines (drop k vs) (drop k os) ≡ variable_line (get_or vs k d) (get_or os k O.none) ∷ variable_lines (drop (suc k) vs) (drop (suc k) os)
unfolding variable_lines
variables_drop [] os k d h = absurd (omega arith)
variables_drop (v ∷ vs) [] zero d h = refl
variables_drop (v ∷ vs) [] (suc k) d h = ap (variable_lines (drop k vs)) (sym (drop_nothing k)) ∙ variables_drop vs [] k d (omega arith)
variables_drop (v ∷ vs) (o ∷ os) zero d h = refl
variables_drop (v ∷ vs) (o ∷ os) (suc k) d h = variables_drop vs os k d (omega arith)

-- the words of variable k
pub range_stands : (t rest : List ℕ) (m : Model) (k : ℕ) (d : Range) → k < length m.variables → (e : t ≡ sheet_words m ++ rest)
    → drop (range_at t k) t ≡ line_words (variable_line (get_or m.variables k d) (owner_of m k)) ++ (words_of (variable_lines (drop (suc k) m.variables) (drop (suc k) m.owners)) ++ after_ranges t rest m e)
unfolding flat_map
range_stands t rest m k d h e =
    let l : k ≤ length m.variables = omega arith in
    range_at_lem t rest m e k l ∙ ap (λ (r : List Entry). words_of r ++ after_ranges t rest m e) (variables_drop m.variables m.owners k d h) ∙
    append_assoc (line_words (variable_line (get_or m.variables k d) (owner_of m k))) (words_of (variable_lines (drop (suc k) m.variables) (drop (suc k) m.owners))) (after_ranges t rest m e)

-- the nodes of the tree that stands at a place: behind them stand its start conditions
module _ (t rest : List ℕ) (c : Tree) (at : ℕ) (e : drop at t ≡ line_words (compose_line c) ++ rest) where
  pub tree_nodes : drop (nodes_place t at) t ≡ tree_words c ++ (start_words c ++ rest)
  unfolding nodes_place line_words
  tree_nodes =
      reached t at 1 (tree_size c ∷ []) ((tree_words c ++ start_words c) ++ rest) e refl ∙ append_assoc (tree_words c) (start_words c) rest

  pub tree_begins : take (length (tree_words c)) (drop (nodes_place t at) t) ≡ tree_words c
  tree_begins = ap (take (length (tree_words c))) tree_nodes ∙ take_at (tree_words c) (start_words c ++ rest) (length (tree_words c)) refl

pub tree_stands : (t rest : List ℕ) (m : Model) → t ≡ sheet_words m ++ rest
    → drop (nodes_place t (tree_at t)) t ≡ tree_words m.tree ++ (start_words m.tree ++ rest)
tree_stands t rest m e = tree_nodes t rest m.tree (tree_at t) (tree_at_lem t rest m e)

-- no place is past the end
module _ (t : List ℕ) where
  pub predicate_inside : (at : ℕ) → after_predicate t at ≤ length t
  unfolding after_predicate
  predicate_inside at = reach_inside t (nodes_place t at) (get_or t at 0)

  pub location_inside : (at j : ℕ) → at ≤ length t → location_at t at j ≤ length t
  unfolding location_at
  location_inside at zero h = h
  location_inside at (suc j) h = location_inside (after_predicate t (after_predicate t at)) j (predicate_inside (after_predicate t at))

  pub edge_inside : (at k : ℕ) → at ≤ length t → edge_at t at k ≤ length t
  unfolding edge_at
  edge_inside at zero h = h
  edge_inside at (suc k) h = edge_inside (after_predicate t (update_place t at)) k (predicate_inside (update_place t at))

  pub edges_inside : (at : ℕ) → edges_at t at ≤ length t
  unfolding edges_at first_location
  edges_inside at = location_inside (first_location t at) (location_count t at) (reach_inside t at 3)

  pub after_automaton_inside : (at : ℕ) → after_automaton t at ≤ length t
  unfolding after_automaton first_edge
  after_automaton_inside at = edge_inside (first_edge t (edges_at t at)) (get_or t (edges_at t at) 0) (reach_inside t (edges_at t at) 1)

  pub count_inside : count_at t ≤ length t
  unfolding count_at range_at
  count_inside = reach_inside t (reach t (reach t (reach t 0 3) (variables_in t)) (variables_in t)) (variables_in t)

  passed_inside : (at k : ℕ) → at ≤ length t → passed t at k ≤ length t
  unfolding passed
  passed_inside at zero h = h
  passed_inside at (suc k) h = passed_inside (after_automaton t at) k (after_automaton_inside at)

  pub automaton_inside : (k : ℕ) → automaton_at t k ≤ length t
  unfolding automaton_at first_automaton
  automaton_inside k = passed_inside (first_automaton t) k (reach_inside t (count_at t) 1)

  pub tree_inside : tree_at t ≤ length t
  unfolding tree_at
  tree_inside = automaton_inside (automata_in t)
