-- In the words of a sheet the places are those of its parts. Each law says what stands from a place on.
use mathlib.Core.Path.{◌≡◌, refl, sym, ap, ◌∙◌}
use mathlib.Core.Bool.{Bool, true, false}
use mathlib.Core.List.{List, [], ◌∷◌, ◌++◌, append_assoc, append-nil, map, flat_map}
use mathlib.Core.Option.{Option}
use Prim.Native.Nat.{ℕ, zero, suc, ◌+◌, ◌-◌, ◌≤◌}
use native.Mathlib.Omega.{arith}
use lib.ListN.{length, get_or, drop, drop_of_length-le, length-map, replicate}
use lib.Seq.{drop-drop, drop_at, get_or-drop}
use lib.Dec.{leb}
use borrow.Author.Tests.{leb-true, leb-false, le-leb}
use Rattle.model.specs.Bounds.{table_words}
use Rattle.model.specs.Predicate.{Pred, Range, words, node_count}
use Rattle.model.specs.Model.{Location, Edge, Automaton, Model}
use Rattle.model.specs.Lines.{Entry, variable_line, variable_lines, edge_line, edges_line, automata_line, compose_line, location_lines, automaton_lines, lines}
use Rattle.model.specs.Table.{code, biased, low_bits, high_bits, set_words, pred_words, owner_word, line_words, sheet_words, table_of}
use Rattle.table_places.specs.Outline.{reach, nodes_place, after_predicate, owner_at, edge_from, edge_action, edge_to, update_place, set_low, set_high, location_count, first_location, first_edge, location_at, edge_at, edges_at, after_automaton, actions_in, variables_in, range_at, low_at, high_at, count_at, automata_in, first_automaton, passed, automaton_at, tree_at}

-- a step within the table is a sum
pub reach_is : (t : List ℕ) (at n : ℕ) → at + n ≤ length t → reach t at n ≡ at + n
unfolding reach
reach_is t at n h = rw (le-leb (at + n) (length t) h, reach)

pub reach_inside : (t : List ℕ) (at n : ℕ) → reach t at n ≤ length t
unfolding reach
reach_inside t at n = go (leb (at + n) (length t)) refl
  where
    go : (b : Bool) → leb (at + n) (length t) ≡ b → reach t at n ≤ length t
    go true e = rw (e, reach) (leb-true (at + n) (length t) e)
    go false e = rw (e, reach) (omega arith)

pub reach_drop : (t : List ℕ) (at n : ℕ) → drop (reach t at n) t ≡ drop n (drop at t)
unfolding reach
reach_drop t at n = go (leb (at + n) (length t)) refl
  where
    go : (b : Bool) → leb (at + n) (length t) ≡ b → drop (reach t at n) t ≡ drop n (drop at t)
    go true e = rw (e, reach) (sym (drop-drop n at t))
    go false e =
        let h : length t ≤ at + n = omega (arith, leb-false (at + n) (length t) e) in
        let g : length t ≤ length t = omega arith in
        rw (e, reach) (drop_of_length-le t g ∙ sym (drop-drop n at t ∙ drop_of_length-le t h))

module _ (t : List ℕ) (at : ℕ) where
  pub reached : (n : ℕ) (k l : List ℕ) → drop at t ≡ k ++ l → length k ≡ n → drop (reach t at n) t ≡ l
  reached n k l e z = reach_drop t at n ∙ ap (drop n) e ∙ drop_at k l n z

  pub read : (x : ℕ) (l : List ℕ) → drop at t ≡ x ∷ l → get_or t at 0 ≡ x
  read x l e =
      let none : at + 0 ≡ at = omega arith in
      ap (λ (k : ℕ). get_or t k 0) (sym none) ∙ sym (get_or-drop at t 0 0) ∙ ap (λ (k : List ℕ). get_or k 0 0) e

  -- a predicate: its number of nodes, its nodes, and what is past it
  module _ (p : Pred) (rest : List ℕ) (e : drop at t ≡ pred_words p ++ rest) where
    pub node_count_lem : get_or t at 0 ≡ node_count p
    unfolding pred_words
    node_count_lem = read (node_count p) (map code (words p) ++ rest) e

    pub nodes_stand : drop (nodes_place t at) t ≡ map code (words p) ++ rest
    unfolding nodes_place pred_words
    nodes_stand = reached 1 (node_count p ∷ []) (map code (words p) ++ rest) e refl

    pub after_predicate_lem : drop (after_predicate t at) t ≡ rest
    unfolding after_predicate node_count
    after_predicate_lem =
        let nodes = map code (words p) in
        let n = length (words p) in
        rw node_count_lem (reach_drop t (nodes_place t at) n ∙ ap (drop n) nodes_stand ∙ drop_at nodes rest n (simp length-map))

-- the words of some lines, and of the parts of a sheet
abbrev pub words_of : List Entry → List ℕ
words_of es = flat_map line_words es

abbrev pub location_words : List Location → List ℕ
location_words ls = words_of (flat_map location_lines ls)

abbrev pub edge_words : List Edge → List ℕ
edge_words es = words_of (map edge_line es)

abbrev pub automaton_words : List Automaton → List ℕ
automaton_words xs = words_of (flat_map automaton_lines xs)

pub words_append : (a b : List Entry) → words_of (a ++ b) ≡ words_of a ++ words_of b
unfolding flat_map
words_append [] b = refl
words_append (e ∷ a) b = ap (λ (l : List ℕ). line_words e ++ l) (words_append a b) ∙ sym (append_assoc (line_words e) (words_of a) (words_of b))

-- what stands at the words of an edge
module _ (t rest : List ℕ) (x : Edge) (at : ℕ) (e : drop at t ≡ line_words (edge_line x) ++ rest) where
  pub from_stands : edge_from t at ≡ x.from
  unfolding edge_from line_words
  from_stands = read t at x.from _ e

  pub action_stands : edge_action t at ≡ x.action
  unfolding edge_action line_words
  action_stands = read t (reach t at 1) x.action _ (reached t at 1 (x.from ∷ []) _ e refl)

  pub to_stands : edge_to t at ≡ x.to
  unfolding edge_to line_words
  to_stands = read t (reach t at 2) x.to _ (reached t at 2 (x.from ∷ x.action ∷ []) _ e refl)

  pub update_stands : drop (update_place t at) t ≡ pred_words x.update ++ rest
  unfolding update_place line_words
  update_stands = reached t at 3 (x.from ∷ x.action ∷ x.to ∷ []) _ e refl

  pub next_edge : drop (after_predicate t (update_place t at)) t ≡ rest
  next_edge = after_predicate_lem t (update_place t at) x.update rest update_stands

module _ (t rest : List ℕ) where
  pub location_at_lem : (ls : List Location) (at j : ℕ) → j ≤ length ls → drop at t ≡ location_words ls ++ rest
      → drop (location_at t at j) t ≡ location_words (drop j ls) ++ rest
  unfolding location_at flat_map location_lines line_words
  location_at_lem ls at zero h e = e
  location_at_lem [] at (suc j) h e = absurd (omega arith)
  location_at_lem (l ∷ ls) at (suc j) h e =
      let others = location_words ls in
      let i = pred_words l.init in
      let v = pred_words l.inv in
      let f : drop at t ≡ i ++ (v ++ (others ++ rest)) =
      e ∙ append_assoc i (v ++ others) rest ∙ ap (λ (r : List ℕ). i ++ r) (append_assoc v others rest) in
      let g : drop (after_predicate t at) t ≡ v ++ (others ++ rest) = after_predicate_lem t at l.init (v ++ (others ++ rest)) f in
      location_at_lem ls (after_predicate t (after_predicate t at)) j (omega arith) (after_predicate_lem t (after_predicate t at) l.inv (others ++ rest) g)

  pub edge_at_lem : (es : List Edge) (at k : ℕ) → k ≤ length es → drop at t ≡ edge_words es ++ rest
      → drop (edge_at t at k) t ≡ edge_words (drop k es) ++ rest
  unfolding edge_at flat_map line_words
  edge_at_lem es at zero h e = e
  edge_at_lem [] at (suc k) h e = absurd (omega arith)
  edge_at_lem (x ∷ es) at (suc k) h e =
      let others = edge_words es in
      let line = line_words (edge_line x) in
      edge_at_lem es (after_predicate t (update_place t at)) k (omega arith) (next_edge t (others ++ rest) x at (e ∙ append_assoc line others rest))

  -- after all of them
  pub after_locations : (ls : List Location) (at : ℕ) → drop at t ≡ location_words ls ++ rest → drop (location_at t at (length ls)) t ≡ rest
  unfolding flat_map
  after_locations ls at e =
      let whole : length ls ≤ length ls = omega arith in
      location_at_lem ls at (length ls) whole e ∙ ap (λ (l : List Location). location_words l ++ rest) (drop_of_length-le ls whole)

  pub after_edges : (es : List Edge) (at : ℕ) → drop at t ≡ edge_words es ++ rest → drop (edge_at t at (length es)) t ≡ rest
  unfolding flat_map
  after_edges es at e =
      let whole : length es ≤ length es = omega arith in
      edge_at_lem es at (length es) whole e ∙ ap (λ (l : List Edge). edge_words l ++ rest) (drop_of_length-le es whole)

-- an automaton: what stands where the number of its edges does, and after it
module _ (t rest : List ℕ) (x : Automaton) (at : ℕ) (e : drop at t ≡ words_of (automaton_lines x) ++ rest) where
  parts : drop at t ≡ low_bits x.sync ∷ high_bits x.sync ∷ length x.locations ∷ (location_words x.locations ++ (length x.edges ∷ (edge_words x.edges ++ rest)))
  unfolding flat_map automaton_lines line_words set_words
  parts =
      let ls = location_words x.locations in
      let es = edges_line (length x.edges) ∷ map edge_line x.edges in
      e ∙
      ap (λ (l : List ℕ). low_bits x.sync ∷ high_bits x.sync ∷ length x.locations ∷ (l ++ rest)) (words_append (flat_map location_lines x.locations) es) ∙
      ap (λ (l : List ℕ). low_bits x.sync ∷ high_bits x.sync ∷ length x.locations ∷ l) (append_assoc ls (words_of es) rest)

  pub low_stands : set_low t at ≡ low_bits x.sync
  unfolding set_low
  low_stands = read t at (low_bits x.sync) _ parts

  pub high_stands : set_high t at ≡ high_bits x.sync
  unfolding set_high
  high_stands = read t (reach t at 1) (high_bits x.sync) _ (reached t at 1 (low_bits x.sync ∷ []) _ parts refl)

  pub location_count_lem : location_count t at ≡ length x.locations
  unfolding location_count
  location_count_lem =
      read t (reach t at 2) (length x.locations) _ (reached t at 2 (low_bits x.sync ∷ high_bits x.sync ∷ []) _ parts refl)

  pub first_location_lem : drop (first_location t at) t ≡ location_words x.locations ++ (length x.edges ∷ (edge_words x.edges ++ rest))
  unfolding first_location
  first_location_lem = reached t at 3 (low_bits x.sync ∷ high_bits x.sync ∷ length x.locations ∷ []) _ parts refl

  pub edges_at_lem : drop (edges_at t at) t ≡ length x.edges ∷ (edge_words x.edges ++ rest)
  unfolding edges_at
  edges_at_lem =
      let others = length x.edges ∷ (edge_words x.edges ++ rest) in
      rw location_count_lem (after_locations t others x.locations (first_location t at) first_location_lem)

  pub edge_count : get_or t (edges_at t at) 0 ≡ length x.edges
  edge_count = read t (edges_at t at) (length x.edges) (edge_words x.edges ++ rest) edges_at_lem

  pub first_edge_lem : drop (first_edge t (edges_at t at)) t ≡ edge_words x.edges ++ rest
  unfolding first_edge
  first_edge_lem = reached t (edges_at t at) 1 (length x.edges ∷ []) (edge_words x.edges ++ rest) edges_at_lem refl

  pub after_automaton_lem : drop (after_automaton t at) t ≡ rest
  unfolding after_automaton
  after_automaton_lem =
      rw edge_count (after_edges t rest x.edges (first_edge t (edges_at t at)) first_edge_lem)

pub passed_at : (t rest : List ℕ) (xs : List Automaton) (at k : ℕ) → k ≤ length xs → drop at t ≡ automaton_words xs ++ rest
    → drop (passed t at k) t ≡ automaton_words (drop k xs) ++ rest
unfolding passed flat_map
passed_at t rest xs at zero h e = e
passed_at t rest [] at (suc k) h e = absurd (omega arith)
passed_at t rest (x ∷ xs) at (suc k) h e =
    let others = automaton_words xs in
    let f : drop at t ≡ words_of (automaton_lines x) ++ (others ++ rest) =
    e ∙ ap (λ (l : List ℕ). l ++ rest) (words_append (automaton_lines x) (flat_map automaton_lines xs)) ∙ append_assoc (words_of (automaton_lines x)) others rest in
    passed_at t rest xs (after_automaton t at) k (omega arith) (after_automaton_lem t (others ++ rest) x at f)

pub drop_nothing : {A : Type 0} (k : ℕ) → drop {A = A} k [] ≡ []
drop_nothing zero = refl
drop_nothing (suc k) = refl

-- three words a variable
pub ranges_from : (vs : List Range) (os : List (Option ℕ)) (k : ℕ) (rest : List ℕ) → k ≤ length vs
    → drop (k + k + k) (words_of (variable_lines vs os) ++ rest) ≡ words_of (variable_lines (drop k vs) (drop k os)) ++ rest
unfolding flat_map line_words variable_lines
ranges_from vs os zero rest h = refl
ranges_from [] os (suc k) rest h = absurd (omega arith)
ranges_from (v ∷ vs) [] (suc k) rest h =
    let e : suc k + suc k + suc k ≡ suc (suc (suc (k + k + k))) = omega arith in
    rw e (ranges_from vs [] k rest (omega arith) ∙ ap (λ (l : List (Option ℕ)). words_of (variable_lines (drop k vs) l) ++ rest) (drop_nothing k))
ranges_from (v ∷ vs) (o ∷ os) (suc k) rest h =
    let e : suc k + suc k + suc k ≡ suc (suc (suc (k + k + k))) = omega arith in
    rw e (ranges_from vs os k rest (omega arith))

-- the variable that stands at a place
module _ (t rest : List ℕ) (v : Range) (o : Option ℕ) (at : ℕ) (e : drop at t ≡ line_words (variable_line v o) ++ rest) where
  pub range_low : low_at t at ≡ biased v.low
  unfolding low_at line_words
  range_low = read t at (biased v.low) _ e

  pub range_high : high_at t at ≡ biased v.high
  unfolding high_at line_words
  range_high = read t (reach t at 1) (biased v.high) _ (reached t at 1 (biased v.low ∷ []) _ e refl)

  pub owner_there : owner_at t at ≡ owner_word o
  unfolding owner_at line_words
  owner_there = read t (reach t at 2) (owner_word o) _ (reached t at 2 (biased v.low ∷ biased v.high ∷ []) _ e refl)

-- a sheet
module _ (t rest : List ℕ) (m : Model) (e : t ≡ sheet_words m ++ rest) where
  pub sheet_parts : drop 0 t ≡ m.format ∷ m.actions ∷ length m.variables ∷ (words_of (variable_lines m.variables m.owners) ++ (length m.automata ∷ (automaton_words m.automata ++ (line_words (compose_line m.tree) ++ rest))))
  unfolding sheet_words lines flat_map line_words
  sheet_parts =
      let vs = variable_lines m.variables m.owners in
      let xs = flat_map automaton_lines m.automata in
      let c = line_words (compose_line m.tree) in
      let others = automata_line (length m.automata) ∷ (xs ++ compose_line m.tree ∷ []) in
      let last : words_of (xs ++ compose_line m.tree ∷ []) ++ rest ≡ words_of xs ++ (c ++ rest) =
      ap (λ (l : List ℕ). l ++ rest) (words_append xs (compose_line m.tree ∷ [])) ∙ append_assoc (words_of xs) (c ++ []) rest ∙ ap (λ (l : List ℕ). words_of xs ++ (l ++ rest)) (append-nil c) in
      e ∙
      ap (λ (l : List ℕ). m.format ∷ m.actions ∷ length m.variables ∷ (l ++ rest)) (words_append vs others) ∙
      ap (λ (l : List ℕ). m.format ∷ m.actions ∷ length m.variables ∷ l) (append_assoc (words_of vs) (words_of others) rest) ∙
      ap (λ (l : List ℕ). m.format ∷ m.actions ∷ length m.variables ∷ (words_of vs ++ (length m.automata ∷ l))) last

  pub actions_in_lem : actions_in t ≡ m.actions
  unfolding actions_in
  actions_in_lem = ap (λ (l : List ℕ). get_or l 1 0) sheet_parts

  pub variables_in_lem : variables_in t ≡ length m.variables
  unfolding variables_in
  variables_in_lem = ap (λ (l : List ℕ). get_or l 2 0) sheet_parts

  -- what stands after the head: N, and the rest
  abbrev pub after_ranges : List ℕ
  after_ranges = length m.automata ∷ (automaton_words m.automata ++ (line_words (compose_line m.tree) ++ rest))

  -- variable k
  pub range_at_lem : (k : ℕ) → k ≤ length m.variables → drop (range_at t k) t ≡ words_of (variable_lines (drop k m.variables) (drop k m.owners)) ++ after_ranges
  unfolding range_at
  range_at_lem k h =
      let vs = m.variables in
      let a = reach t 0 3 in
      let b = reach t a k in
      let first : drop (reach t 0 3) t ≡ words_of (variable_lines vs m.owners) ++ after_ranges =
      reached t 0 3 (m.format ∷ m.actions ∷ length vs ∷ []) _ sheet_parts refl in
      let second : drop b t ≡ drop k (drop (reach t 0 3) t) = reach_drop t a k in
      reach_drop t (reach t b k) k ∙ ap (drop k) (reach_drop t b k ∙ ap (drop k) second) ∙
      ap (drop k) (drop-drop k k (drop a t)) ∙ drop-drop k (k + k) (drop a t) ∙
      ap (drop (k + k + k)) first ∙ ranges_from vs m.owners k after_ranges h

  pub count_at_lem : drop (count_at t) t ≡ after_ranges
  unfolding count_at flat_map variable_lines
  count_at_lem =
      let n = length m.variables in
      let whole : length m.variables ≤ n = omega arith in
      rw variables_in_lem (range_at_lem n whole ∙ ap (λ (l : List Range). words_of (variable_lines l (drop n m.owners)) ++ after_ranges) (drop_of_length-le m.variables whole))

  pub automata_in_lem : automata_in t ≡ length m.automata
  unfolding automata_in
  automata_in_lem = read t (count_at t) (length m.automata) _ count_at_lem

  pub automaton_at_lem : (k : ℕ) → k ≤ length m.automata
      → drop (automaton_at t k) t ≡ automaton_words (drop k m.automata) ++ (line_words (compose_line m.tree) ++ rest)
  unfolding automaton_at first_automaton
  automaton_at_lem k h =
      let after = line_words (compose_line m.tree) ++ rest in
      let first : drop (first_automaton t) t ≡ automaton_words m.automata ++ after =
      reached t (count_at t) 1 (length m.automata ∷ []) (automaton_words m.automata ++ after) count_at_lem refl in
      passed_at t after m.automata (first_automaton t) k h first

  pub tree_at_lem : drop (tree_at t) t ≡ line_words (compose_line m.tree) ++ rest
  unfolding tree_at flat_map
  tree_at_lem =
      let after = line_words (compose_line m.tree) ++ rest in
      let n = length m.automata in
      let whole : length m.automata ≤ length m.automata = omega arith in
      rw automata_in_lem
      (automaton_at_lem n whole ∙ ap (λ (l : List Automaton). automaton_words l ++ after) (drop_of_length-le m.automata whole))

-- a model's table begins with its sheet's words
pub table_sheet : (t more : List ℕ) (m : Model) → t ≡ table_of m ++ more → t ≡ sheet_words m ++ (replicate (table_words - length (sheet_words m)) 0 ++ more)
unfolding table_of
table_sheet t more m e = e ∙ append_assoc (sheet_words m) (replicate (table_words - length (sheet_words m)) 0) more
