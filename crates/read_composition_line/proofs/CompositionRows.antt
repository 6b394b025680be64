-- What the code says of a line `compose=C` is what its text says.
use Prim.Native.Nat.{ℕ, ◌*◌, ◌≤◌}
use mathlib.Core.Path.{◌≡◌, refl, sym, ◌∙◌, ap, ap₂}
use mathlib.Core.Bool.{Bool, true, false, not, not-not, true≢false, or-false}
use mathlib.Core.List.{List, [], ◌∷◌, ◌++◌, flat_map}
use mathlib.Core.Option.{Option, none, some}
use native.Mathlib.Omega.{arith}
use borrow.Author.Tests.{ltb-false}
use lib.ListN.{length, take, length-replicate, length-drop}
use Rattle.model.specs.Basic.{exists, lacks, or_else, same}
use Rattle.model.specs.Bounds.{max_tree_nodes, max_actions}
use Rattle.model.specs.Predicate.{Pred, Range, words, names_outside, names_new}
use Rattle.model.specs.Composition.{Tree, leaf, nodes, starts, start_nodes, tree_size}
use Rattle.model.specs.Limits.{broken, rises, is_too_deep, exceeds_span, passes_nodes, is_disordered, is_too_large, variable_count}
use Rattle.model.specs.Lines.{Reading, compose}
use Rattle.model.specs.Parse.{read_tree}
use Rattle.model.specs.Table.{node_words, pred_words, start_words, line_words}
use Rattle.model.proofs.Tests.{not-false}
use Rattle.model.proofs.Decode.{unbroken, is_broken, not_broken}
use Rattle.model.proofs.Sizes.{starts_few}
use Rattle.line_order.specs.declared.Counts.{Counts}
use Rattle.line_order.specs.Due.{number_of}
use Rattle.line_order.specs.Counts.{nodes_of, Counted, capped}
use Rattle.line_order.proofs.CappedLaws.{rises_capped}
use Rattle.table_append.specs.Append.{next_place, put}
use Rattle.table_append.proofs.AppendLaws.{put_kept}
use Rattle.table_line.specs.Line.{ranges_in}
use Rattle.table_line.specs.Exact.{Declared}
use Rattle.table_line.proofs.PredicateLines.{declared_are}
use Rattle.format.specs.Bytes.{Bytes, bytes, parts, comma}
use Rattle.format.specs.Rows.{fault, entry, field, fields, has_pred, is, numbers_sound, place, the_tree, the_starts, starts_of, tree_tokens, nodes_in, tree_of, value_of, row2, row3, row4, row5, row6, row7, row8, row9, row10, row11, row12, row13, row14, row15, row16, row50}
use Rattle.format.specs.Spelling.{spelling}
use Rattle.format.specs.Tokens.{Numeral, bare, lettered, unjudged, numeral, items, tokens, sound, sounds, list_sound, lists_sound}
use Rattle.format.proofs.BytesLaws.{same_is}
use Rattle.format.proofs.ReadLaws.{sounds_inv}
use Rattle.format.proofs.TreeText.{read_composed}
use Rattle.format.proofs.TreeFaults.{starts_back}
use Rattle.read_composition.specs.declared.compose.Composition.{Composition}
use Rattle.read_composition.specs.Lists.{lists_kept}
use Rattle.read_composition.specs.Read.{of_tree, composition_of, memory_of}
use Rattle.read_composition.proofs.AfterSyn.{list_case, syn_sound, lists_sound_lem}
use Rattle.read_composition.proofs.Meaning.{read_formed, read_size, read_is_formed, read_ordered, read_count, read_words_lem}
use Rattle.read_starts.specs.declared.judging.Judged.{Judged}
use Rattle.read_starts.specs.Judged.{judged_all, row_of}
use Rattle.read_starts.specs.Words.{starts_words}
use Rattle.read_starts.specs.Rows.{starts_read, start_preds, starts_rows}
use Rattle.read_starts.proofs.StartRows.{judged_rows, judged_nodes, judged_count, judged_words, judged_same, words_same}
use Rattle.std.specs.Prelude as P
use Rattle.std.specs.Prelude.{Result, Ok, Err}
use Rattle.std.specs.Option.{is_some}
use Rattle.model.specs.Row as Row
use Rattle.read_form.specs.Outcome.{said}
use Rattle.read_form.specs.Form.{line_of, misformed, fields_of}
use Rattle.read_form.specs.Outcome.{then_row, answered, written}
use Rattle.read_form.proofs.FormLaws.{row2_by}
use Rattle.read_form.proofs.Outcomes.{same_row, then_broken, then_none, first_none, answered_fault, answered_sound, written_sound, written_long}
use Rattle.read_composition_line.specs.Composition.{blank, tree_in, tree_fault, tree_words, starts_judged, composed_fault, composed_words, part_told, part_after, part_of, compose_fault, compose_read, compose_after}
use Rattle.read_list.proofs.Meaning.{items_ranged}
use Rattle.read_composition_line.proofs.CompositionLaws.{rows_by}

-- Where row 3 is not broken, no list has a number above 63, so that A and the cap of A ask the same.
module _ (A : ℕ) where
  list_capped : (before t : Bytes) → sound before t ≡ true → list_sound (capped A) before t ≡ list_sound A before t
  unfolding items
  list_capped before t h = go (numeral t) refl
    where
      after : (u : Bytes) → numeral t ≡ bare u → (w : Bool) → same before (bytes "syn") ≡ w
          → ◌≡◌ {A = Bool} (elim w as (λ q. Bool) [ true ↦ rises (capped A) 0 (items u) | false ↦ true ])
          (elim w as (λ q. Bool) [ true ↦ rises A 0 (items u) | false ↦ true ])
      after u e true q =
          let z : sound (bytes "syn") t ≡ true = ap (λ (b : Bytes). sound b t) (sym (same_is before (bytes "syn") q)) ∙ h in
          rises_capped A 0 (items u) (items_ranged max_actions (parts comma u) (syn_sound t u e z))
      after u e false q = refl

      go : (x : Numeral) → numeral t ≡ x → list_sound (capped A) before t ≡ list_sound A before t
      go unjudged e = list_case (capped A) before t unjudged e ∙ sym (list_case A before t unjudged e)
      go (bare u) e = list_case (capped A) before t (bare u) e ∙ after u e (same before (bytes "syn")) refl ∙ sym (list_case A before t (bare u) e)
      go (lettered b u) e = list_case (capped A) before t (lettered b u) e ∙ sym (list_case A before t (lettered b u) e)

  lists_capped : (before : Bytes) (ts : List Bytes) → sounds before ts ≡ true → lists_sound (capped A) before ts ≡ lists_sound A before ts
  unfolding lists_sound
  lists_capped before [] h = refl
  lists_capped before (t ∷ ts) h =
      let i = sounds_inv before t ts h in
      ap (λ (v : Bool). elim v as (λ q. Bool) [ true ↦ lists_sound (capped A) t ts | false ↦ false ]) (list_capped before t i.0) ∙
      ap (λ (v : Bool). elim (list_sound A before t) as (λ q. Bool) [ true ↦ v | false ↦ false ]) (lists_capped t ts i.1)

  -- row 5 as the code asks it
  kept_by : (s : Bytes) → sounds [] (tokens s) ≡ true → lists_kept (capped A) false (tokens s) ≡ lists_sound A [] (tokens s)
  kept_by s h = lists_sound_lem (capped A) s h ∙ lists_capped [] (tokens s) h

-- rows 13, 14 and 16, as the text's tokens break them
abbrev tree_spelled : Bytes → Option Tree
tree_spelled s = read_tree (read_composed [] (tokens s))

abbrev tree_or : Option Tree → Tree
tree_or o = or_else (leaf 0) o

abbrev rows_of_tree : ℕ → Bytes → Option ℕ
rows_of_tree N s =
    broken 13 (lacks (tree_spelled s))
    (broken 14 (is_disordered N (tree_or (tree_spelled s)))
    (broken 16 (is_too_large (length (read_composed [] (tokens s))))
    none))

-- the words of its nodes
abbrev words_of : Tree → List ℕ
words_of t = tree_size t ∷ flat_map node_words (nodes t)

blank_long : length blank ≡ 192
blank_long = length-replicate {A = ℕ} 192 0

module _ (N A : ℕ) (s : Bytes) (three : sounds [] (tokens s) ≡ true) (five : lists_sound A [] (tokens s) ≡ true)
    (six : exists lacks (starts_read s) ≡ false) where
  abbrev its : P.Option Composition
  its = composition_of N s blank

  tree_rows : tree_fault N s ≡ rows_of_tree N s
  unfolding tree_fault tree_in lacks or_else
  tree_rows = go (tree_spelled s) refl
    where
      go : (o : Option Tree) → tree_spelled s ≡ o → rows_by its ≡ rows_of_tree N s
      go none e =
          let f : is_some its ≡ false = read_formed N A s blank three five six ∙ ap (λ (o : Option Tree). not (lacks o)) e in
          is_broken 13 _ _ (ap not f) ∙ sym (is_broken 13 _ _ (ap lacks e))
      go (some t) e =
          let f = read_is_formed N A s blank three five six t e in
          let o : not (of_tree its).ordered ≡ is_disordered N t = ap not (read_ordered N A s blank three five six t e) ∙ not-not (is_disordered N t) in
          let n : (of_tree its).nodes ≡ length (read_composed [] (tokens s)) =
          read_count N A s blank three five six t e ∙ sym (read_size N A s blank three five six t e) in
          not_broken 13 _ _ (ap not f) ∙
          ap (λ (b : Bool). broken 14 b (broken 16 (is_too_large (of_tree its).nodes) none))
          (o ∙ ap (λ (x : Option Tree). is_disordered N (tree_or x)) (sym e)) ∙
          ap (λ (k : ℕ). broken 14 (is_disordered N (tree_or (tree_spelled s))) (broken 16 (is_too_large k) none)) n ∙
          sym (not_broken 13 _ _ (ap lacks e))

  -- the words, where the rows of the tree are not broken either
  tree_words_lem : rows_of_tree N s ≡ none → tree_words N s ≡ words_of (tree_or (tree_spelled s))
  unfolding tree_words tree_in lacks or_else
  tree_words_lem h = go (tree_spelled s) refl
    where
      go : (o : Option Tree) → tree_spelled s ≡ o → (of_tree its).nodes ∷ take (of_tree its).next (memory_of N s blank) ≡ words_of (tree_or (tree_spelled s))
      go none e = absurd (true≢false (sym (ap lacks e) ∙ (unbroken 13 _ _ h).0))
      go (some t) e =
          let b13 = unbroken 13 _ _ h in
          let b14 = unbroken 14 _ _ b13.1 in
          let b16 = unbroken 16 _ none b14.1 in
          let small : is_too_large (tree_size t) ≡ false = ap is_too_large (sym (read_size N A s blank three five six t e)) ∙ b16.0 in
          ap (λ (k : ℕ). k ∷ take (of_tree its).next (memory_of N s blank)) (read_count N A s blank three five six t e) ∙
          ap (λ (l : List ℕ). tree_size t ∷ l) (read_words_lem N A s blank three five six t e small blank_long) ∙
          ap (λ (x : Option Tree). words_of (tree_or x)) (sym e)

  -- its P's, no more than the code counts
  tree_starts : rows_of_tree N s ≡ none → (start_preds s ≡ starts (tree_or (tree_spelled s))) × (length (start_preds s) ≤ max_tree_nodes)
  unfolding lacks or_else is_too_large
  tree_starts h = go (tree_spelled s) refl
    where
      go : (o : Option Tree) → tree_spelled s ≡ o → (start_preds s ≡ starts (tree_or (tree_spelled s))) × (length (start_preds s) ≤ max_tree_nodes)
      go none e = absurd (true≢false (sym (ap lacks e) ∙ (unbroken 13 _ _ h).0))
      go (some t) e =
          let b = starts_back s t three six e in
          let l = ltb-false max_tree_nodes (length (read_composed [] (tokens s))) (unbroken 16 _ none (unbroken 14 _ _ (unbroken 13 _ _ h).1).1).0 in (
            b ∙ ap (λ (x : Option Tree). starts (tree_or x)) (sym e),
            omega (arith, ap (length {A = Pred}) b, starts_few t, read_size N A s blank three five six t e),
          )

-- what stands after the key
part_shorter : (s : Bytes) → length (part_of s) ≤ length s
part_shorter s = omega (arith, length-drop (length (bytes "compose=")) s)

-- rows 6 to 11 before others
module _ (declared : List Range) (before : ℕ) (s : Bytes) where
  abbrev rows_before : Option ℕ → Option ℕ
  rows_before rest = starts_rows declared before s rest

  then_rows : (rest : Option ℕ) → then_row (rows_before none) rest ≡ rows_before rest
  unfolding starts_rows
  then_rows rest = simp (then_broken, then_none)

  -- the later ones need be the same only if row 6 is not broken
  rows_same : (x y : Option ℕ) → (exists lacks (starts_read s) ≡ false → x ≡ y) → rows_before x ≡ rows_before y
  unfolding starts_rows
  rows_same x y h = same_row 6 _ _ _ _ refl (λ e. ap (λ (o : Option ℕ).
      broken 7 (exists (λ p. names_outside (length declared) (words p)) (start_preds s))
      (broken 8 (exists (λ p. names_new (words p)) (start_preds s))
      (broken 9 (exists is_too_deep (start_preds s))
      (broken 10 (exists (exceeds_span declared) (start_preds s))
      (broken 11 (passes_nodes before (flat_map words (start_preds s)))
      o))))) (h e))

  module _ (rest : Option ℕ) (h : rows_before rest ≡ none) where
    starts_none : rows_before none ≡ none
    starts_none = first_none (rows_before none) rest (then_rows rest ∙ h)

    rest_none : rest ≡ none
    rest_none = sym (then_none rest) ∙ ap (λ (o : Option ℕ). then_row o rest) (sym starts_none) ∙ then_rows rest ∙ h

    no_row6 : exists lacks (starts_read s) ≡ false
    unfolding starts_rows
    no_row6 = (unbroken 6 _ _ h).0

module _ (r : Reading) (c : Counts) (t : List ℕ) (k : Counted r c) (d : Declared t r) (s : Bytes) (ended : Bool) (room high : ℕ)
    (enough : length s ≤ 2 * room) (sorts : length s ≤ 2 * high) where
  abbrev automata : ℕ
  automata = length r.model.automata

  abbrev part : Bytes
  part = part_of s

  abbrev in_row3 : Bool
  in_row3 = sounds [] (tokens part)

  abbrev in_row5 : Bool
  in_row5 = lists_sound r.model.actions [] (tokens part)

  abbrev rows_from6 : Option ℕ
  rows_from6 = starts_rows r.model.variables r.nodes part (rows_of_tree automata part)

  -- the rows of a line `compose=`
  rows_of : fault r compose (line_of s ended) ≡ broken 2 (row2 compose (line_of s ended)) (broken 3 (not in_row3) (broken 5 (not in_row5) rows_from6))
  unfolding
      fault row3 row4 row5 row6 row7 row8 row9 row10 row11 row12 row13 row14 row15 row16 row50 is place has_pred broken numbers_sound field fields
      value_of tree_tokens starts_of the_starts nodes_in tree_of the_tree spelling variable_count starts_rows
  rows_of =
      rw (
        or-false (exists lacks (starts_read part)),
        or-false (exists (λ p. names_outside (length r.model.variables) (words p)) (start_preds part)),
        or-false (exists (λ p. names_new (words p)) (start_preds part)),
        or-false (exists is_too_deep (start_preds part)),
        or-false (exists (exceeds_span r.model.variables) (start_preds part)),
        or-false (passes_nodes r.nodes (flat_map words (start_preds part))),
      )

  -- the P's by what has been read
  abbrev judged : Judged
  judged = judged_all (length r.model.variables) (ranges_in t c.variables) r.nodes room high part

  judged_by : starts_judged c t part room high ≡ judged
  unfolding starts_judged variable_count
  judged_by = ap₂ (λ (v n : ℕ). judged_all v (ranges_in t c.variables) n room high part) k.variables k.nodes

  -- rows 6 to 16, as the code asks them
  part_rows : in_row3 ≡ true → in_row5 ≡ true → composed_fault c t part room high ≡ rows_from6
  unfolding composed_fault
  part_rows three five =
      let l = part_shorter s in
      ap (λ (x : Judged). then_row (row_of x.row) (tree_fault c.automata part)) judged_by ∙
      ap (λ (o : Option ℕ). then_row o (tree_fault c.automata part))
      (judged_rows r.model.variables (ranges_in t c.variables) (declared_are t r c k d) d.lawful r.nodes part three room high (omega arith) (omega arith)) ∙
      then_rows r.model.variables r.nodes part (tree_fault c.automata part) ∙
      rows_same r.model.variables r.nodes part _ _
      (λ six. ap (λ (N : ℕ). tree_fault N part) k.automata ∙ tree_rows automata r.model.actions part three five six)

  pub compose_fault_lem : compose_fault s ended c t room high ≡ fault r compose (line_of s ended)
  unfolding compose_fault fields_of spelling
  compose_fault_lem =
      same_row 2 _ _ _ _ (row2_by compose s ended) (λ e. same_row 3 _ _ _ _ refl (λ h. later (not-false _ h))) ∙ sym rows_of
    where
      later : in_row3 ≡ true → broken 5 (not (lists_kept (capped c.actions) false (tokens part))) (composed_fault c t part room high) ≡ broken 5 (not in_row5) rows_from6
      later h =
          let e = kept_by c.actions part h ∙ ap (λ (A : ℕ). lists_sound A [] (tokens part)) k.actions in
          same_row 5 _ _ _ _ (ap not e) (λ i. part_rows h (not-false _ i))

  -- what is said where no row is broken
  module _ (h : fault r compose (line_of s ended) ≡ none) where
    abbrev tree : Tree
    tree = tree_or (tree_spelled part)

    from_3 : broken 3 (not in_row3) (broken 5 (not in_row5) rows_from6) ≡ none
    from_3 = (unbroken 2 _ _ (sym rows_of ∙ h)).1

    three : in_row3 ≡ true
    three = not-false _ (unbroken 3 _ _ from_3).0

    from_5 : broken 5 (not in_row5) rows_from6 ≡ none
    from_5 = (unbroken 3 _ _ from_3).1

    five : in_row5 ≡ true
    five = not-false _ (unbroken 5 _ _ from_5).0

    from_6 : rows_from6 ≡ none
    from_6 = (unbroken 5 _ _ from_5).1

    six : exists lacks (starts_read part) ≡ false
    six = no_row6 r.model.variables r.nodes part (rows_of_tree automata part) from_6

    to_11 : starts_rows r.model.variables r.nodes part none ≡ none
    to_11 = starts_none r.model.variables r.nodes part (rows_of_tree automata part) from_6

    from_13 : rows_of_tree automata part ≡ none
    from_13 = rest_none r.model.variables r.nodes part (rows_of_tree automata part) from_6

    the_starts_lem : (start_preds part ≡ starts tree) × (length (start_preds part) ≤ max_tree_nodes)
    the_starts_lem = tree_starts automata r.model.actions part three five six from_13

    its_nodes : (starts_judged c t part room high).nodes ≡ start_nodes tree
    unfolding start_nodes
    its_nodes =
        let l = part_shorter s in
        ap (λ (x : Judged). x.nodes) judged_by ∙
        judged_nodes r.model.variables (ranges_in t c.variables) (declared_are t r c k d) d.lawful r.nodes part three room high (omega arith) (omega arith) to_11 ∙
        ap (λ (ps : List Pred). length (flat_map words ps)) the_starts_lem.0

    its_starts : (starts_judged c t part room high).count ∷ starts_words room part ≡ start_words tree
    unfolding start_words
    its_starts =
        let l = part_shorter s in
        ap (λ (x : Judged). x.count ∷ starts_words room part) judged_by ∙
        ap₂ (λ (n : ℕ) (ws : List ℕ). n ∷ ws)
        (judged_count r.model.variables (ranges_in t c.variables) (declared_are t r c k d) d.lawful r.nodes part three room high (omega arith) (omega arith) the_starts_lem.1)
        (judged_words r.model.variables (ranges_in t c.variables) (declared_are t r c k d) d.lawful r.nodes part three room high (omega arith) (omega arith) to_11) ∙
        ap (λ (ps : List Pred). length ps ∷ flat_map pred_words ps) the_starts_lem.0

    its_words : composed_words c t part room high ≡ words_of tree ++ start_words tree
    unfolding composed_words
    its_words =
        ap₂ (λ (v w : List ℕ). v ++ w)
        (ap (λ (N : ℕ). tree_words N part) k.automata ∙ tree_words_lem automata r.model.actions part three five six from_13) its_starts

  -- what the paper asks of the reader of one line, for `compose=`
  module _ (at : ℕ) where
    pub compose_faulty : (row : ℕ) → fault r compose (line_of s ended) ≡ some row → compose_read s ended c t room high at ≡ Err (Row.row row)
    unfolding compose_read part_told
    compose_faulty row h = answered_fault _ row _ (compose_fault_lem ∙ h)

    pub compose_sound : fault r compose (line_of s ended) ≡ none
        → (compose_read s ended c t room high at
        ≡ Ok (said (number_of (entry compose (line_of s ended))) (nodes_of (entry compose (line_of s ended))) (next_place at (length (line_words (entry compose (line_of s ended)))))))
        × (compose_after s ended c t room high at ≡ put at (line_words (entry compose (line_of s ended))) t)
    unfolding compose_read compose_after part_told part_after entry number_of nodes_of line_words the_tree tree_of nodes_in the_starts starts_of tree_tokens value_of spelling
    compose_sound h =
        let e : compose_fault s ended c t room high ≡ none = compose_fault_lem ∙ h in (
          answered_sound _ _ e ∙ ap₂ (λ (n : ℕ) (l : List ℕ). Ok (said 0 n (next_place at (length l)))) (its_nodes h) (its_words h),
          written_sound _ _ t e ∙ ap (λ (l : List ℕ). put at l t) (its_words h),
        )

-- more room than enough changes nothing
module _ (s : Bytes) (ended : Bool) (c : Counts) (t : List ℕ) (at room most : ℕ) (a : length s ≤ 2 * room) (b : length s ≤ 2 * most) where
  starts_same : starts_judged c t (part_of s) room room ≡ starts_judged c t (part_of s) most most
  unfolding starts_judged
  starts_same =
      let l = part_shorter s in
      judged_same (part_of s) room room most most (omega arith) (omega arith) (omega arith) (omega arith) c.variables (ranges_in t c.variables) c.nodes

  compose_same : compose_fault s ended c t room room ≡ compose_fault s ended c t most most
  unfolding compose_fault composed_fault
  compose_same =
      ap (λ (x : Judged).
      broken 2 (misformed (bytes "compose=") 0 s ended)
      (broken 3 (not (sounds [] (tokens (part_of s))))
      (broken 5 (not (lists_kept (capped c.actions) false (tokens (part_of s))))
      (then_row (row_of x.row) (tree_fault c.automata (part_of s)))))) starts_same

  all_same : composed_words c t (part_of s) room room ≡ composed_words c t (part_of s) most most
  unfolding composed_words
  all_same =
      let l = part_shorter s in
      ap₂ (λ (x : Judged) (ws : List ℕ). tree_words c.automata (part_of s) ++ x.count ∷ ws) starts_same
      (words_same (part_of s) room room most most (omega arith) (omega arith) (omega arith) (omega arith))

  pub compose_room : compose_read s ended c t room room at ≡ compose_read s ended c t most most at
  unfolding compose_read part_told
  compose_room =
      ap₂ (λ (o : Option ℕ) (x : Judged). answered o (said 0 x.nodes (next_place at (length (composed_words c t (part_of s) room room))))) compose_same starts_same ∙
      ap (λ (l : List ℕ). answered (compose_fault s ended c t most most) (said 0 (starts_judged c t (part_of s) most most).nodes (next_place at (length l)))) all_same

  pub compose_room_after : compose_after s ended c t room room at ≡ compose_after s ended c t most most at
  unfolding compose_after part_after
  compose_room_after = ap₂ (λ (o : Option ℕ) (l : List ℕ). written o (put at l t) t) compose_same all_same

-- the buffer keeps its length
pub compose_kept : (s : Bytes) (ended : Bool) (c : Counts) (t : List ℕ) (room high at : ℕ) → length (compose_after s ended c t room high at) ≡ length t
unfolding compose_after part_after
compose_kept s ended c t room high at = written_long _ _ t (put_kept _ at t)
