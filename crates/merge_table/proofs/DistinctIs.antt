-- On a sheet's words, the sheet without repeats is that of the model: places of equal edges, the first ones, and the words.
use mathlib.Core.Path.{◌≡◌, refl, sym, ap, ap₂, ◌∙◌}
use mathlib.Core.Bool.{Bool, true, false}
use mathlib.Core.List.Memᴰ
use mathlib.Core.List.{List, [], ◌∷◌, ◌++◌, append_assoc, append-nil, map, flat_map, Memᴰ}
use Prim.Native.Nat.{ℕ, suc, ◌+◌, ◌-◌, ◌≤◌, ◌<◌}
use native.Mathlib.Omega.{arith}
use native.Mathlib.Numerals.{add-one}
use lib.ListN.{length, get_or, drop, length-append, length-drop, length-map}
use lib.Dec.{eqb}
use borrow.Author.Tests.{eqb-true}
use Rattle.model.specs.Basic.{every, exists, once}
use Rattle.model.specs.Bounds.{max_edges}
use Rattle.model.specs.Predicate.{words, node_count}
use Rattle.model.specs.Model.{Edge, Automaton, Model, nobody, automaton}
use Rattle.model.specs.Limits.{in_range}
use Rattle.model.specs.Lawful.{Lawful}
use Rattle.model.specs.Lines.{edge_line, edges_line, compose_line, location_lines, automaton_lines, variable_lines}
use Rattle.model.specs.Table.{code, word_of, low_bits, high_bits, set_words, pred_words, line_words, sheet_words}
use Rattle.model.specs.Equal.{same_edge}
use Rattle.model.specs.Repeats.{distinct_edges, distinct}
use Rattle.model.proofs.Tests.{both_ways, never}
use Rattle.model.proofs.Sizes.{words_fit}
use Rattle.model.proofs.Decode.{words_back}
use Rattle.model.proofs.Once.{once_from, once_by}
use Rattle.model.proofs.EqualLaws.{same_pred, edge_is, same_edge_is}
use Rattle.model.proofs.Distinct.{distinct_same}
use Rattle.table_places.specs.Outline.{after_predicate, update_place, first_edge, edges_at, after_automaton, first_automaton, automaton_at, count_at}
use Rattle.table_places.specs.AtMost.{at_most}
use Rattle.table_places.specs.Layout.{layout_of, automata_of}
use Rattle.table_places.specs.Starts.{starts_at, start_count, first_start}
use Rattle.table_places.proofs.CodeLaws.{at_most_all}
use Rattle.table_places.proofs.OutlineLaws.{reach_inside, words_of, location_words, edge_words, automaton_words, words_append, node_count_lem, update_stands, edges_at_lem, edge_count, first_edge_lem, after_automaton_lem, sheet_parts}
use Rattle.table_places.proofs.Standing.{automaton_stands, edges_inside, after_automaton_inside, tree_inside}
use Rattle.table_places.proofs.StartLaws.{first_start_inside, start_inside, starts_end}
use Rattle.table_places.proofs.LayoutLaws.{all_automata, edges_place, tree_place, tree_line}
use Rattle.merge_append.specs.Runs.{run}
use Rattle.merge_append.specs.NodeWords.{most, capped}
use Rattle.merge_append.proofs.NodeLaws.{capped_is}
use Rattle.merge_distinct.specs.Equality.{edge_length, same_edge_at}
use Rattle.merge_distinct.specs.Firsts.{edges_of, with_edge, firsts_from, first_ones}
use Rattle.merge_distinct.specs.Distinct as D
use Rattle.merge_distinct.specs.Distinct.{repeats_from, repeats_in, part, automata_words, tree_end, distinct_words}
use Rattle.merge_distinct.proofs.SameHash.{run_same, same_length, same_of_run}
use Rattle.merge_table.proofs.Standing.{run_is, automata_cons, Along, along_first, along_rest, Here}
use Rattle.merge_table.proofs.HeadIs.{automata_stand, laid_places, laid_edges}
use Rattle.merge_table.proofs.EdgesAre.{first_there, first_past, listed_at}
use Rattle.merge_table.proofs.MovesAre.{edges_few}

-- an edge's words stand at a place, and they can be read back
pub record EdgeStands (t : List ℕ) (at : ℕ) (e : Edge) : Type 0 where
  pub rest : List ℕ
  pub there : drop at t ≡ line_words (edge_line e) ++ rest
  pub ranged : every in_range (words e.update) ≡ true
  pub fits : length (line_words (edge_line e)) ≤ most

-- how many words an edge has
line_length : (e : Edge) → length (line_words (edge_line e)) ≡ 4 + node_count e.update
unfolding line_words pred_words node_count
line_length e = omega (arith, length-map (words e.update) code)

-- edges with the same words are equal
line_same : (e f : Edge) → every in_range (words e.update) ≡ true → every in_range (words f.update) ≡ true → line_words (edge_line e) ≡ line_words (edge_line f) → e ≡ f
unfolding line_words pred_words
line_same e f re rf h =
    let nodes : map code (words e.update) ≡ map code (words f.update) = ap (drop 4) h in
    let same : words e.update ≡ words f.update = sym (words_back (words e.update) re) ∙ ap (map word_of) nodes ∙ words_back (words f.update) rf in
    edge_is e f (ap (λ (l : List ℕ). get_or l 0 0) h) (ap (λ (l : List ℕ). get_or l 1 0) h) (ap (λ (l : List ℕ). get_or l 2 0) h) (same_pred e.update f.update same)

module _ (t : List ℕ) where
  -- as many words are compared and copied as the edge has
  length_is : (at : ℕ) (e : Edge) → EdgeStands t at e → edge_length t at ≡ length (line_words (edge_line e))
  unfolding edge_length
  length_is at e s =
      let n : get_or t (update_place t at) 0 ≡ node_count e.update = node_count_lem t (update_place t at) e.update s.rest (update_stands t s.rest e at s.there) in
      ap (λ w. capped (4 + w)) n ∙ ap capped (sym (line_length e)) ∙ sym (capped_is (length (line_words (edge_line e))) s.fits)

  -- and they are the edge's
  pub edge_run : (at : ℕ) (e : Edge) → EdgeStands t at e → run t at (edge_length t at) ≡ line_words (edge_line e)
  edge_run at e s = ap (run t at) (length_is at e s) ∙ run_is t (line_words (edge_line e)) s.rest at s.there

  -- the edges at two places are equal if the edges are
  pub same_at_is : (a b : ℕ) (e f : Edge) → EdgeStands t a e → EdgeStands t b f → same_edge_at t a b ≡ same_edge e f
  unfolding same_edge_at
  same_at_is a b e f s u = both_ways (same_edge_at t a b) (same_edge e f) forth back
    where
      forth : same_edge_at t a b ≡ true → same_edge e f ≡ true
      forth h =
          let runs : run t a (edge_length t a) ≡ run t b (edge_length t b) = run_same t a b (edge_length t a) h ∙ ap (run t b) (same_length t a b h) in
          (same_edge_is e f).1 (line_same e f s.ranged u.ranged (sym (edge_run a e s) ∙ runs ∙ edge_run b f u))

      back : same_edge e f ≡ true → same_edge_at t a b ≡ true
      back h =
          let q : e ≡ f = (same_edge_is e f).0 h in
          let n : edge_length t a ≡ edge_length t b = length_is a e s ∙ ap (λ (x : Edge). length (line_words (edge_line x))) q ∙ sym (length_is b f u) in
          same_of_run t a b (edge_length t a) (edge_run a e s ∙ ap (λ (x : Edge). line_words (edge_line x)) q ∙ sym (edge_run b f u) ∙ ap (run t b) (sym n))

-- some edges stand at some places
pub data Listed (t : List ℕ) : List ℕ → List Edge → Type 0 where
  no_more : Listed t [] []
  one_more_lem : (p : ℕ) (ps : List ℕ) (e : Edge) (es : List Edge) → EdgeStands t p e → Listed t ps es → Listed t (p ∷ ps) (e ∷ es)

module _ (t : List ℕ) where
  -- as many
  listed_length : {ps : List ℕ} {es : List Edge} → Listed t ps es → length ps ≡ length es
  listed_length no_more = refl
  listed_length (one_more_lem p ps e es s l) = ap suc (listed_length l)

  -- with the same words
  listed_words : {ps : List ℕ} {es : List Edge} → Listed t ps es → D.edge_words t ps ≡ edge_words es
  unfolding D.edge_words flat_map
  listed_words no_more = refl
  listed_words (one_more_lem p ps e es s l) = ap₂ (λ (k r : List ℕ). k ++ r) (edge_run t p e s) (listed_words l)

  -- an edge more at the end
  listed_more : {ps : List ℕ} {es : List Edge} (p : ℕ) (e : Edge) → EdgeStands t p e → Listed t ps es → Listed t (ps ++ p ∷ []) (es ++ e ∷ [])
  listed_more p e s no_more = one_more_lem p [] e [] s no_more
  listed_more p e s (one_more_lem q ps f es u l) = one_more_lem q (ps ++ p ∷ []) f (es ++ e ∷ []) u (listed_more p e s l)

  -- an edge equals one of them if it equals one at their places
  listed_exists : {ps : List ℕ} {es : List Edge} (at : ℕ) (x : Edge) → EdgeStands t at x → Listed t ps es → exists (same_edge_at t at) ps ≡ exists (same_edge x) es
  unfolding exists
  listed_exists at x s no_more = refl
  listed_exists at x s (one_more_lem p ps e es u l) = rw (same_at_is t at p x e s u, listed_exists at x s l)

  -- the first ones of some edges, after others that are listed
  firsts_from_lem : (es : List Edge) (at : ℕ) (rest : List ℕ) (ps : List ℕ) (ks : List Edge) → ((e : Edge) → Memᴰ e es → every in_range (words e.update) ≡ true)
      → length t ≤ most + length rest → drop at t ≡ edge_words es ++ rest → Listed t ps ks → Listed t (firsts_from t (length es) at ps) (once_from same_edge ks es)
  unfolding firsts_from once_from with_edge
  firsts_from_lem [] at rest ps ks ranged long e l = l
  firsts_from_lem (x ∷ es) at rest ps ks ranged long e l =
      firsts_from_lem es (after_predicate t (update_place t at)) rest (with_edge t at ps) _ (λ y i. ranged y (Memᴰ.tail i)) long (first_past t at x es rest e) (go (exists (same_edge x) ks) refl)
    where
      here : EdgeStands t at x
      here =
          let f = first_there t at x es rest e in
          let size : length t - at ≡ length (line_words (edge_line x)) + (length (edge_words es) + length rest) =
          sym (length-drop at t) ∙ ap length f ∙ omega (arith, length-append (line_words (edge_line x)) (edge_words es ++ rest), length-append (edge_words es) rest) in
          record { rest = edge_words es ++ rest; there = f; ranged = ranged x (Memᴰ.head refl); fits = omega arith }

      go : (b : Bool) → exists (same_edge x) ks ≡ b → Listed t (with_edge t at ps) (elim (exists (same_edge x) ks) [ true ↦ ks | false ↦ ks ++ x ∷ [] ])
      go true h = let q : exists (same_edge_at t at) ps ≡ true = listed_exists at x here l ∙ h in rw (q, h, with_edge) l
      go false h = let q : exists (same_edge_at t at) ps ≡ false = listed_exists at x here l ∙ h in rw (q, h, with_edge) (listed_more at x here l)

-- the words between two places
part_words : (t ws rest : List ℕ) (from to : ℕ) → from ≤ length t → to ≤ length t → drop from t ≡ ws ++ rest → drop to t ≡ rest → part t from to ≡ ws
unfolding part
part_words t ws rest from to hf ht e f =
    let a : length t - from ≡ length ws + length rest = sym (length-drop from t) ∙ ap length e ∙ length-append ws rest in
    let b : length t - to ≡ length rest = sym (length-drop to t) ∙ ap length f in
    let n : to - from ≡ length ws = omega arith in
    ap (run t from) n ∙ run_is t ws rest from e

-- the words of an automaton before those of its edges
abbrev head_of : Automaton → List ℕ
head_of x = low_bits x.sync ∷ high_bits x.sync ∷ length x.locations ∷ location_words x.locations

-- an automaton's words, in two parts
automaton_words_lem : (x : Automaton) → words_of (automaton_lines x) ≡ head_of x ++ (length x.edges ∷ edge_words x.edges)
unfolding flat_map automaton_lines line_words set_words
automaton_words_lem x =
    ap (λ (l : List ℕ). low_bits x.sync ∷ high_bits x.sync ∷ length x.locations ∷ l) (words_append (flat_map location_lines x.locations) (edges_line (length x.edges) ∷ map edge_line x.edges))

-- the edges of an automaton are not too many, and can be read back
record Fine (x : Automaton) : Type 0 where
  few : length x.edges ≤ max_edges
  ranged : (e : Edge) → Memᴰ e x.edges → every in_range (words e.update) ≡ true

-- an automaton that stands at a place
module _ (t rest : List ℕ) (x : Automaton) (at : ℕ) (fine : Fine x) (long : length t ≤ most + length rest) (e : drop at t ≡ words_of (automaton_lines x) ++ rest) where
  -- how many edges it has
  count_is : edges_of t (edges_at t at) ≡ length x.edges
  unfolding edges_of
  count_is = ap (at_most max_edges) (edge_count t rest x at e) ∙ sym (at_most_all max_edges (length x.edges) fine.few)

  -- the places that are listed are those of its edges, each once
  firsts_stand : Listed t (first_ones t (edges_at t at)) (once same_edge x.edges)
  unfolding first_ones
  firsts_stand =
      rw (count_is, ← once_by same_edge same_edge_is x.edges) (firsts_from_lem t x.edges (first_edge t (edges_at t at)) rest [] [] fine.ranged long (first_edge_lem t rest x at e) no_more)

  -- its words without repeats
  automaton_is : at ≤ length t → D.automaton_words t at (edges_at t at) ≡ words_of (automaton_lines (distinct_edges x))
  unfolding D.automaton_words distinct_edges
  automaton_is inside =
      let after = length x.edges ∷ (edge_words x.edges ++ rest) in
      let there : drop at t ≡ head_of x ++ after = e ∙ ap (λ (l : List ℕ). l ++ rest) (automaton_words_lem x) ∙ append_assoc (head_of x) (length x.edges ∷ edge_words x.edges) rest in
      let head : part t at (edges_at t at) ≡ head_of x = part_words t (head_of x) after at (edges_at t at) inside (edges_inside t at) there (edges_at_lem t rest x at e) in
      let count : length (first_ones t (edges_at t at)) ≡ length (once same_edge x.edges) = listed_length t firsts_stand in
      let words_are : D.edge_words t (first_ones t (edges_at t at)) ≡ edge_words (once same_edge x.edges) = listed_words t firsts_stand in
      ap₂ (λ (k l : List ℕ). k ++ l) head (ap₂ (λ (n : ℕ) (l : List ℕ). n ∷ l) count words_are) ∙ sym (automaton_words_lem (distinct_edges x))

-- some automata that stand one after the other
module _ (t rest : List ℕ) (long : length t ≤ most + length rest) where
  -- with more words after them the bound holds too
  still_long : (ws : List ℕ) → length t ≤ most + length (ws ++ rest)
  still_long ws = omega (arith, length-append ws rest)

  -- where none is found to have repeats, none has
  none_repeats : (places : List ℕ) (xs : List Automaton) (i at : ℕ) → ((x : Automaton) → Memᴰ x xs → Fine x) → drop at t ≡ automaton_words xs ++ rest → Along t (edges_at t) places i at (length xs)
      → repeats_from t places i (length xs) ≡ false → (x : Automaton) → Memᴰ x xs → length (once same_edge x.edges) ≡ length x.edges
  unfolding repeats_from
  none_repeats places [] i at fine e starts h y k = absurd (Memᴰ.not-nil k)
  none_repeats places (x ∷ xs) i at fine e starts h y k =
      go (eqb (length (first_ones t (edges_at t at))) (edges_of t (edges_at t at))) refl
      (λ r j. none_repeats places xs (suc i) (after_automaton t at) (λ z l. fine z (Memᴰ.tail l)) (after_automaton_lem t others x at f) (along_rest t (edges_at t) places i at (length xs) starts) r y j) k
    where
      others : List ℕ
      others = automaton_words xs ++ rest

      f : drop at t ≡ words_of (automaton_lines x) ++ others
      f = automata_cons t at x xs rest e

      place : get_or places i 0 ≡ edges_at t at
      place = along_first t (edges_at t) places i at (length xs) starts

      one : Fine x
      one = fine x (Memᴰ.head refl)

      go : (b : Bool) → eqb (length (first_ones t (edges_at t at))) (edges_of t (edges_at t at)) ≡ b
          → (repeats_from t places (suc i) (length xs) ≡ false → Memᴰ y xs → length (once same_edge y.edges) ≡ length y.edges)
          → Memᴰ y (x ∷ xs) → length (once same_edge y.edges) ≡ length y.edges
      go false q ih m = never (sym h ∙ rw (place, q, repeats_from))
      go true q ih (Memᴰ.head r) =
          rw r (sym (listed_length t (firsts_stand t others x at one (still_long (automaton_words xs)) f)) ∙ eqb-true _ _ q ∙ count_is t others x at one (still_long (automaton_words xs)) f)
      go true q ih (Memᴰ.tail m) = ih (rw (place, q, repeats_from, add-one i) at h) m

  -- their words without repeats
  automata_are : (sets places : List ℕ) (xs : List Automaton) (i at : ℕ) → ((x : Automaton) → Memᴰ x xs → Fine x) → at ≤ length t → drop at t ≡ automaton_words xs ++ rest
      → Here t sets i at (length xs) → Along t (edges_at t) places i at (length xs) → automata_words t sets places i (length xs) ≡ automaton_words (map distinct_edges xs)
  unfolding automata_words flat_map
  automata_are sets places [] i at fine inside e here starts = refl
  automata_are sets places (x ∷ xs) i at fine inside e here starts =
      let others = automaton_words xs ++ rest in
      let f = automata_cons t at x xs rest e in
      let one = automaton_is t others x at (fine x (Memᴰ.head refl)) (still_long (automaton_words xs)) f inside in
      let more = automata_are sets places xs (suc i) (after_automaton t at) (λ z j. fine z (Memᴰ.tail j)) (after_automaton_inside t at) (after_automaton_lem t others x at f)
      (along_rest t (λ a. a) sets i at (length xs) here) (along_rest t (edges_at t) places i at (length xs) starts) in
      rw (add-one i, along_first t (λ a. a) sets i at (length xs) here, along_first t (edges_at t) places i at (length xs) starts)
      (ap₂ (λ (k l : List ℕ). k ++ l) one more ∙ sym (words_append (automaton_lines (distinct_edges x)) (flat_map automaton_lines (map distinct_edges xs))))

module _ (m : Model) (lawful : Lawful m) (t rest : List ℕ) (e : t ≡ sheet_words m ++ rest) where
  -- what stands after the automata
  abbrev after : List ℕ
  after = line_words (compose_line m.tree) ++ rest

  -- the words before it are no more than the greatest word
  long : length t ≤ most + length after
  long = omega (arith, ap length e, length-append (sheet_words m) rest, length-append (line_words (compose_line m.tree)) rest, words_fit m lawful)

  -- each automaton's edges are few, and can be read back
  fine : (x : Automaton) → Memᴰ x m.automata → Fine x
  fine x i = record { few = omega (arith, edges_few m.automata x i, lawful.few_edges); ranged = λ d j. ((lawful.automata x i).edges d j).update.ranged }

  -- the places that are listed for automaton k are those of its edges, each once and in their order
  pub firsts_are : (k : ℕ) → k < length m.automata → Listed t (first_ones t (get_or (layout_of t).edges k 0)) (once same_edge (automaton m k).edges)
  firsts_are k h =
      let others = automaton_words (drop (suc k) m.automata) in
      rw (edges_place m lawful t rest e k h)
      (firsts_stand t (others ++ after) (automaton m k) (automaton_at t k) (fine (automaton m k) (listed_at nobody m.automata k h)) (still_long t after long others) (automaton_stands t rest m k h e))

  -- where no repeat is found, the sheet has none
  pub repeats_is : repeats_in t (layout_of t) ≡ false → distinct m ≡ m
  unfolding repeats_in
  repeats_is h =
      distinct_same m (none_repeats t after long (layout_of t).edges m.automata 0 (first_automaton t) fine (automata_stand m lawful t rest e) (laid_edges m lawful t rest e)
      (ap (repeats_from t (layout_of t).edges 0) (sym (all_automata m lawful t rest e)) ∙ h))

  -- the words up to the first automaton
  abbrev sheet_head : List ℕ
  sheet_head = m.format ∷ m.actions ∷ length m.variables ∷ (words_of (variable_lines m.variables m.owners) ++ length m.automata ∷ [])

  -- they are copied
  head_is : part t 0 (first_automaton t) ≡ sheet_head
  unfolding first_automaton
  head_is =
      let others = automaton_words m.automata ++ after in
      let vs = words_of (variable_lines m.variables m.owners) in
      let there : drop 0 t ≡ sheet_head ++ others =
      sheet_parts t rest m e ∙ ap (λ (l : List ℕ). m.format ∷ m.actions ∷ length m.variables ∷ l) (sym (append_assoc vs (length m.automata ∷ []) others)) in
      part_words t sheet_head others 0 (first_automaton t) (omega arith) (reach_inside t (count_at t) 1) there (automata_stand m lawful t rest e)

  -- the tree's words, up to the end of the last start condition
  tree_is : part t (layout_of t).tree (tree_end t (layout_of t)) ≡ line_words (compose_line m.tree)
  unfolding tree_end
  tree_is =
      let c = m.tree in
      let at = (layout_of t).tree in
      let line = tree_line m lawful t rest e in
      let counted = starts_at t at in
      let inside = start_inside t (first_start t counted) (start_count t counted) (first_start_inside t counted) in
      part_words t (line_words (compose_line c)) rest at _ (rw (tree_place m lawful t rest e) (tree_inside t)) inside line (starts_end t rest c at line lawful.tree.size)

  -- the sheet without repeats, in three parts
  distinct_parts : sheet_words (distinct m) ≡ sheet_head ++ (automaton_words (map distinct_edges m.automata) ++ line_words (compose_line m.tree))
  unfolding distinct
  distinct_parts =
      let xs = automaton_words (map distinct_edges m.automata) in
      let c = line_words (compose_line m.tree) in
      let vs = words_of (variable_lines m.variables m.owners) in
      sheet_parts (sheet_words (distinct m)) [] (distinct m) (sym (append-nil (sheet_words (distinct m)))) ∙
      ap₂ (λ (n : ℕ) (l : List ℕ). m.format ∷ m.actions ∷ length m.variables ∷ (vs ++ (n ∷ (xs ++ l)))) (length-map m.automata distinct_edges) (append-nil c) ∙
      ap (λ (l : List ℕ). m.format ∷ m.actions ∷ length m.variables ∷ l) (sym (append_assoc vs (length m.automata ∷ []) (xs ++ c)))

  -- the words without repeats are those of the sheet without repeats
  pub distinct_words_are : distinct_words t (layout_of t) ≡ sheet_words (distinct m)
  unfolding distinct_words first_automaton
  distinct_words_are =
      let inside : first_automaton t ≤ length t = reach_inside t (count_at t) 1 in
      let automata_words_lem : automata_words t (layout_of t).sets (layout_of t).edges 0 (automata_of (layout_of t)) ≡ automaton_words (map distinct_edges m.automata) =
      ap (automata_words t (layout_of t).sets (layout_of t).edges 0) (all_automata m lawful t rest e) ∙
      automata_are t after long (layout_of t).sets (layout_of t).edges m.automata 0 (first_automaton t) fine inside (automata_stand m lawful t rest e) (laid_places m lawful t rest e) (laid_edges m lawful t rest e) in
      ap₂ (λ (k l : List ℕ). k ++ l) head_is (ap₂ (λ (k l : List ℕ). k ++ l) automata_words_lem tree_is) ∙ sym distinct_parts
