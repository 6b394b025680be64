-- The head of the merged sheet is that of the merged model.
use mathlib.Core.Path.{◌≡◌, refl, sym, ap, ap₂, ◌∙◌}
use mathlib.Core.List.{List, [], ◌∷◌, ◌++◌, append_assoc, map, flat_map, Memᴰ}
use mathlib.Core.Option.{Option}
use Prim.Native.Nat.{ℕ, suc, pred, ◌+◌, ◌-◌, ◌≤◌, ◌<◌}
use native.Mathlib.Omega.{arith}
use native.Mathlib.Numerals.{sub-one, add-one}
use lib.ListN.{length, get_or, drop, length-append, length-map}
use Rattle.model.specs.Bounds.{bias, max_locations}
use Rattle.model.specs.Predicate.{Range, range}
use Rattle.model.specs.Model.{Automaton, Model}
use Rattle.model.specs.Lawful.{Lawful}
use Rattle.model.specs.Lines.{Entry, format_line, actions_line, variables_line, variable_line, automata_line, compose_line, variable_lines}
use Rattle.model.specs.Table.{biased, owner_word, line_words, sheet_words}
use Rattle.model.specs.Linear.{pointer_range, merged_owner, pointer_owner}
use Rattle.model.specs.Repeats.{linear_with_repeats}
use Rattle.model.proofs.Decode.{owner_back}
use Rattle.table_places.specs.Outline.{location_count, range_at, owner_at, first_automaton, edges_at, passed, automaton_at, after_automaton}
use Rattle.table_places.specs.Layout.{layout_of, automata_of, variables_of}
use Rattle.table_places.proofs.LayoutLaws.{all_automata, all_variables, set_place, edges_place}
use Rattle.table_places.proofs.OutlineLaws.{words_of, automaton_words, words_append, location_count_lem, after_automaton_lem, range_low, range_high, owner_there, sheet_parts, actions_in_lem, variables_in_lem, after_ranges, range_at_lem, automata_in_lem, automaton_at_lem}
use Rattle.merge_append.specs.NodeWords.{upward, pointer_of}
use Rattle.merge_words.specs.Head.{format_in, last_location_at, merged_owner_word, pointer_owner_word, variable_at, variables_from, pointers_from, head_words}
use Rattle.merge_table.proofs.Standing.{narrow_is, automata_cons, Along, along_first, along_rest, Here}

-- sums of small numbers
pub pointer_sum : (v i : ℕ) → v < 4294967296 → i < 4294967296 → pointer_of v i ≡ v + i
unfolding pointer_of
pointer_sum v i h k = rw (narrow_is v h, narrow_is i k)

pub upward_small : (z : ℕ) → z < 4294967296 → upward z ≡ bias + z
unfolding upward
upward_small z h = rw (narrow_is z h)

-- an owner's word, and the word of the pointers' owner
owner_word_lem : (o : Option ℕ) → merged_owner_word (owner_word o) ≡ owner_word (merged_owner o)
unfolding merged_owner_word
owner_word_lem o = ap (λ p. owner_word (merged_owner p)) (owner_back o)

pointer_word : (f : ℕ) → pointer_owner_word f ≡ owner_word (pointer_owner f)
unfolding pointer_owner_word
pointer_word f = refl

-- the variables, from variable k on: each has its range, and its owner in the merged sheet
variables_are : (t after : List ℕ) (vs : List Range) (os : List (Option ℕ)) (k : ℕ) → length os ≡ length vs
    → ((j : ℕ) → j < length vs → drop (range_at t (k + j)) t ≡ words_of (variable_lines (drop j vs) (drop j os)) ++ after)
    → variables_from t k (length vs) ≡ words_of (variable_lines vs (map merged_owner os))
unfolding variables_from variable_at variable_lines flat_map line_words
variables_are t after [] os k n stand = refl
variables_are t after (v ∷ vs) [] k n stand = absurd (omega arith)
variables_are t after (v ∷ vs) (o ∷ os) k n stand =
    let z : k + 0 ≡ k = omega arith in
    let at = range_at t k in
    let others = words_of (variable_lines vs os) ++ after in
    let here : drop at t ≡ line_words (variable_line v o) ++ others = ap (λ j. drop (range_at t j) t) (sym z) ∙ stand 0 (omega arith) in
    let owner : merged_owner_word (owner_at t at) ≡ owner_word (merged_owner o) = ap merged_owner_word (owner_there t others v o at here) ∙ owner_word_lem o in
    rw (add-one k, range_low t others v o at here, range_high t others v o at here, owner)
    (ap (λ (l : List ℕ). biased v.low ∷ biased v.high ∷ owner_word (merged_owner o) ∷ l) (variables_are t after vs os (suc k) (omega arith) next))
  where
    next : (j : ℕ) → j < length vs → drop (range_at t (suc k + j)) t ≡ words_of (variable_lines (drop j vs) (drop j os)) ++ after
    next j h = let z : suc k + j ≡ k + suc j = omega arith in ap (λ i. drop (range_at t i) t) z ∙ stand (suc j) (omega arith)

-- variables and their owners, some and then others
lines_append : (vs ws : List Range) (os us : List (Option ℕ)) → length os ≡ length vs → variable_lines (vs ++ ws) (os ++ us) ≡ variable_lines vs os ++ variable_lines ws us
unfolding variable_lines
lines_append [] ws [] us n = refl
lines_append [] ws (o ∷ os) us n = absurd (omega arith)
lines_append (v ∷ vs) ws [] us n = absurd (omega arith)
lines_append (v ∷ vs) ws (o ∷ os) us n = ap (λ (l : List Entry). variable_line v o ∷ l) (lines_append vs ws os us (omega arith))

-- the pointers
abbrev pointer_lines : (format : ℕ) → List Automaton → List Entry
pointer_lines f xs = variable_lines (map pointer_range xs) (map (λ x. pointer_owner f) xs)

pointers_are : (t places : List ℕ) (xs : List Automaton) (rest : List ℕ) (i at : ℕ) → ((x : Automaton) → Memᴰ x xs → length x.locations ≤ max_locations)
    → drop at t ≡ automaton_words xs ++ rest → Here t places i at (length xs) → pointers_from t places i (length xs) ≡ words_of (pointer_lines (format_in t) xs)
unfolding pointers_from last_location_at variable_lines flat_map line_words pointer_range range biased
pointers_are t places [] rest i at few e here = refl
pointers_are t places (x ∷ xs) rest i at few e here =
    let f = automata_cons t at x xs rest e in
    let n : location_count t (get_or places i 0) ≡ length x.locations =
    ap (location_count t) (along_first t (λ a. a) places i at (length xs) here) ∙ location_count_lem t (automaton_words xs ++ rest) x at f in
    let s = few x (Memᴰ.head refl) in
    let small : length x.locations - 1 < 4294967296 = omega arith in
    let top : upward (location_count t (get_or places i 0) - 1) ≡ bias + pred (length x.locations) =
    ap (λ k. upward (k - 1)) n ∙ upward_small (length x.locations - 1) small ∙ ap (λ k. bias + k) (sub-one (length x.locations)) in
    rw (add-one i, pointer_word (format_in t))
    (ap₂ (λ (y : ℕ) (l : List ℕ). bias ∷ y ∷ owner_word (pointer_owner (format_in t)) ∷ l) top
    (pointers_are t places xs rest (suc i) (after_automaton t at) (λ y q. few y (Memᴰ.tail q)) (after_automaton_lem t (automaton_words xs ++ rest) x at f)
    (along_rest t (λ a. a) places i at (length xs) here)))

module _ (m : Model) (lawful : Lawful m) (t rest : List ℕ) (e : t ≡ sheet_words m ++ rest) where
  format_is : format_in t ≡ m.format
  format_is = ap (λ (l : List ℕ). get_or l 0 0) (sheet_parts t rest m e)

  -- what the layout has
  pub laid_actions : (layout_of t).actions ≡ m.actions
  unfolding layout_of
  laid_actions = actions_in_lem t rest m e

  pub laid_variables : (layout_of t).variables ≡ length m.variables
  unfolding layout_of
  laid_variables = variables_in_lem t rest m e

  pub laid_automata : (layout_of t).automata ≡ length m.automata
  unfolding layout_of
  laid_automata = automata_in_lem t rest m e

  pub automata_stand : drop (first_automaton t) t ≡ automaton_words m.automata ++ (line_words (compose_line m.tree) ++ rest)
  unfolding automaton_at passed
  automata_stand = automaton_at_lem t rest m e 0 (omega arith)

  -- where it has the automata, and their edges
  pub laid_places : Here t (layout_of t).sets 0 (first_automaton t) (length m.automata)
  unfolding automaton_at
  laid_places k h = let z : 0 + k ≡ k = omega arith in ap (λ j. get_or (layout_of t).sets j 0) z ∙ set_place m lawful t rest e k h

  pub laid_edges : Along t (edges_at t) (layout_of t).edges 0 (first_automaton t) (length m.automata)
  unfolding automaton_at
  laid_edges k h = let z : 0 + k ≡ k = omega arith in ap (λ j. get_or (layout_of t).edges j 0) z ∙ edges_place m lawful t rest e k h

  pub few_locations : (x : Automaton) → Memᴰ x m.automata → length x.locations ≤ max_locations
  few_locations x i = (lawful.automata x i).few_locations

  -- the words up to the automaton's are those of the merged model's lines
  pub head_words_lem : head_words t (layout_of t)
      ≡ words_of (format_line (linear_with_repeats m).format ∷ actions_line (linear_with_repeats m).actions ∷ variables_line (length (linear_with_repeats m).variables) ∷ (variable_lines (linear_with_repeats m).variables (linear_with_repeats m).owners ++ automata_line 1 ∷ []))
  unfolding head_words linear_with_repeats flat_map line_words
  head_words_lem =
      let lay = layout_of t in
      let v = length m.variables in
      let n = length m.automata in
      let os = map merged_owner m.owners in
      let vs = variable_lines m.variables os in
      let ps = pointer_lines m.format m.automata in
      let fv = lawful.few_variables in
      let fn = lawful.few_automata in
      let sum : pointer_of lay.variables lay.automata ≡ length (m.variables ++ map pointer_range m.automata) =
      ap₂ pointer_of laid_variables laid_automata ∙ pointer_sum v n (omega arith) (omega arith) ∙ omega (arith, length-append m.variables (map pointer_range m.automata), length-map m.automata pointer_range) in
      let declared : variables_from t 0 (variables_of lay) ≡ words_of vs =
      ap (variables_from t 0) (all_variables m lawful t rest e) ∙ variables_are t _ m.variables m.owners 0 lawful.owners_are stand in
      let pointed : pointers_from t lay.sets 0 (automata_of lay) ≡ words_of ps =
      ap (pointers_from t lay.sets 0) (all_automata m lawful t rest e) ∙ pointers_are t lay.sets m.automata _ 0 (first_automaton t) few_locations automata_stand laid_places ∙
      ap (λ f. words_of (pointer_lines f m.automata)) format_is in
      let all = variable_lines (m.variables ++ map pointer_range m.automata) (os ++ map (λ x. pointer_owner m.format) m.automata) in
      let parts : all ≡ vs ++ ps = lines_append m.variables (map pointer_range m.automata) os (map (λ x. pointer_owner m.format) m.automata) (length-map m.owners merged_owner ∙ lawful.owners_are) in
      let joined : words_of (all ++ automata_line 1 ∷ []) ≡ words_of vs ++ (words_of ps ++ 1 ∷ []) =
      words_append all (automata_line 1 ∷ []) ∙ ap (λ (l : List ℕ). l ++ 1 ∷ []) (ap words_of parts ∙ words_append vs ps) ∙ append_assoc (words_of vs) (words_of ps) (1 ∷ []) in
      rw (format_is, pointed, declared, sum, laid_actions) (ap (λ (l : List ℕ). m.format ∷ m.actions ∷ length (m.variables ++ map pointer_range m.automata) ∷ l) (sym joined))
    where
      stand : (j : ℕ) → j < length m.variables → drop (range_at t (0 + j)) t ≡ words_of (variable_lines (drop j m.variables) (drop j m.owners)) ++ after_ranges t rest m e
      stand j h = let z : 0 + j ≡ j = omega arith in ap (λ k. drop (range_at t k) t) z ∙ range_at_lem t rest m e j (omega arith)
