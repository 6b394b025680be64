-- What the merger gathers of a lawful sheet is what Definition 4 lists.
use mathlib.Core.Path.{◌≡◌, refl, sym, ap, ap₂, ◌∙◌, subst}
use mathlib.Core.Bool.{false}
use mathlib.Core.List.Memᴰ
use mathlib.Core.List.{List, [], ◌∷◌, ◌++◌, map, flat_map, Memᴰ}
use mathlib.Core.Logic.{◌↔◌}
use Prim.Native.Nat.{ℕ, suc, ◌+◌, ◌*◌, ◌≤◌, ◌<◌}
use native.Mathlib.Omega.{arith}
use lib.ListN.{length, get_or, drop, replicate, length-map, length-replicate, get_or-append, get_or-map}
use lib.Seq.{sets-eq, drop-cons}
use Rattle.model.specs.Basic.{keep, count_up}
use borrow.Author.Tests.{le-ltb}
use Rattle.model.specs.Bounds.{max_automata, max_edges, table_words}
use Rattle.model.specs.Predicate.{Pred, all, none, preds, words_all}
use Rattle.model.specs.Composition.{starts}
use Rattle.model.specs.Model.{Model, Location, Automaton, automaton, nobody, in_set}
use Rattle.model.specs.Rules.{Taker}
use Rattle.model.specs.Lawful.{Lawful}
use Rattle.model.specs.Lines.{compose_line, automaton_lines}
use Rattle.model.specs.Table.{code, pred_words, line_words, low_bits, high_bits, set_words, set_of, sheet_words}
use Rattle.model.specs.Moves.{moves}
use Rattle.model.specs.Linear.{linear}
use Rattle.model.specs.Repeats.{count_with_repeats, row32_with_repeats}
use Rattle.model.proofs.Count.{repeats_counted}
use Rattle.model.proofs.Numbered.{numbered, size_is}
use Rattle.model.proofs.LinearLimits.{keep_rises}
use Rattle.table_tree.proofs.Inside.{list_back}
use Rattle.table_places.specs.Outline.{automaton_at}
use Rattle.table_places.specs.Layout.{layout_of}
use Rattle.table_places.proofs.LayoutLaws.{set_place, tree_line}
use Rattle.table_places.proofs.StartLaws.{start_count_lem, first_start_lem}
use Rattle.table_places.proofs.OutlineLaws.{automaton_at_lem, automaton_words}
use Rattle.merge_append.specs.Runs.{run}
use Rattle.merge_predicates.specs.declared.functions.Functions.{Functions}
use Rattle.merge_predicates.specs.Starts.{starts_of}
use Rattle.merge_words.specs.Sync.{sets_of, words_of}
use Rattle.merge_words.specs.Linearize.{gathered_in, takers_for}
use Rattle.merge_table.proofs.Standing.{automata_cons}
use Rattle.merge_table.proofs.HeadIs.{laid_automata}
use Rattle.merge_table.proofs.FunctionsAre.{predicates, sizes, AreFunctions, init_functions, inv_functions}
use Rattle.merge_table.proofs.SyncIs.{sync_words}
use Rattle.merge_table.proofs.CountIs.{count_row, count_exact}
use Rattle.merge_table.proofs.GatherIs.{Move, moved, all_moves, moves_total, Recorded, move_recorded}
use Rattle.theorem_definition4.specs.Table3.{Position, Transition}
use Rattle.theorem_definition4.proofs.Positions.{positions, positions_length}
use Rattle.theorem_definition4.proofs.Table3Is.{TakenBy, transitions_are, wilds_to, labels_own, values_of, leads_are, conditions_are}
use Rattle.theorem_definition4.proofs.Definition4Is.{counted_in, joined_in, transition_bounded, linear_is}
use Rattle.theorem_gathered.specs.Gathers.{all_values, Holds, HoldsStarts, Labelled, Gathers}
use Rattle.theorem_gathered.proofs.Labels.{labelled}

-- the functions' values, one function's after the other's
values_are : (part : Location → Pred) (xs : List Automaton) → all_values (map (values_of part) xs) ≡ predicates part xs
unfolding flat_map
values_are part [] = refl
values_are part (x ∷ xs) = ap (λ (l : List Pred). map part x.locations ++ l) (values_are part xs)

-- gathered functions are the automata's
holds : (t : List ℕ) (part : Location → Pred) (xs : List Automaton) (f : Functions) → length xs ≤ 16 → AreFunctions t part xs f → Holds t f (map (values_of part) xs)
holds t part xs f few a = record { domains = domains; total = a.total ∙ sym (ap length same); values = values }
  where
    same : all_values (map (values_of part) xs) ≡ predicates part xs
    same = values_are part xs

    domains : (i : ℕ) → i < length (map (values_of part) xs) → get_or f.domains i 0 ≡ length (get_or (map (values_of part) xs) i [])
    domains i h =
        let zeros : List ℕ = replicate max_automata 0 in
        let n = length-map xs (λ (x : Automaton). length x.locations) in
        let room : 0 + length (sizes xs) ≤ length zeros = omega (arith, n, length-replicate {A = ℕ} 16 0) in
        let inside : i < length (sizes xs) = omega (arith, n, length-map xs (values_of part)) in
        ap (λ (l : List ℕ). get_or l i 0) (a.domains ∙ sets-eq (sizes xs) zeros 0 room) ∙
        get_or-append (sizes xs) (drop (0 + length (sizes xs)) zeros) 0 i inside ∙
        get_or-map (λ (x : Automaton). length x.locations) xs i nobody ∙
        sym (ap length (get_or-map (values_of part) xs i nobody) ∙ length-map (get_or xs i nobody).locations part)

    values : (k : ℕ) → k < length (all_values (map (values_of part) xs))
        → (rest : List ℕ) × (drop (get_or f.places k 0) t ≡ pred_words (get_or (all_values (map (values_of part) xs)) k (all none)) ++ rest)
    values k h =
        let s = a.values k (omega (arith, ap length same)) in
        let z : k ≡ 0 + k = omega arith in
        (s.others, ap (λ j. drop (get_or f.places j 0) t) z ∙ s.words ∙ ap (λ (l : List Pred). pred_words (get_or l k (all none)) ++ s.others) (sym same))

-- the same labels, named otherwise
told_as : (t : List ℕ) {places : List ℕ} {n a : ℕ} {vs ws vs' ws' : List Position} {r q : List Pred} → vs ≡ ws → r ≡ q → vs' ≡ ws' → Labelled t places n a ws q ws' → Labelled t places n a vs r vs'
told_as t p s p' x =
    record { action = x.action; source = x.source ∙ sym p; target = x.target ∙ sym p'; update = x.update ∙ ap (λ ps. map code (words_all (preds ps))) (sym s) }

-- what is of a list has an index
index_of : {A : Type 0} (d : A) {x : A} {l : List A} → Memᴰ x l → (k : ℕ) × (k < length l) × (get_or l k d ≡ x)
index_of d (Memᴰ.head e) = (0, omega arith, sym e)
index_of d (Memᴰ.tail i) =
    let r = index_of d i in
    let h = r.1 in
    (suc r.0, omega arith, r.2)

module _ (m : Model) (lawful : Lawful m) (t rest : List ℕ) (e : t ≡ sheet_words m ++ rest) where
  abbrev N : ℕ
  N = length m.automata

  abbrev cards : List Position
  cards = positions (λ d. d.from) m.tree []

  -- a wild-card for each automaton
  as_many : length cards ≡ N
  as_many = positions_length (λ d. d.from) m.tree [] ∙ size_is m.tree N lawful.tree.in_order

  automaton_stands : (i : ℕ) → i < N
      → (others : List ℕ) × (drop (get_or (layout_of t).sets i 0) t ≡ flat_map line_words (automaton_lines (automaton m i)) ++ others)
  automaton_stands i h =
      let tail = drop (suc i) m.automata in
      let after = line_words (compose_line m.tree) ++ rest in
      let parts : drop i m.automata ≡ automaton m i ∷ tail = drop-cons m.automata i nobody h in
      let there = automaton_at_lem t rest m e i (omega arith) in
      let place : get_or (layout_of t).sets i 0 ≡ automaton_at t i = set_place m lawful t rest e i h in (
        automaton_words tail ++ after,
        ap (λ k. drop k t) place ∙
            automata_cons t (automaton_at t i) (automaton m i) tail after (there ∙ ap (λ (xs : List Automaton). automaton_words xs ++ after) parts),
      )

  -- the start conditions stand behind the tree
  starts_hold : HoldsStarts t (starts_of t (layout_of t)) (starts m.tree)
  unfolding starts_of
  starts_hold =
      let line = tree_line m lawful t rest e in
      let few = lawful.tree.size in
      record { count = start_count_lem t rest m.tree _ line few; values = (rest, first_start_lem t rest m.tree _ line few) }

  -- the whole's set
  abbrev kept : List ℕ
  kept = keep (λ a. in_set m a m.tree) (count_up 1 m.actions)

  set_is : set_of (sets_of t (layout_of t)).low (sets_of t (layout_of t)).high ≡ kept
  unfolding words_of set_words
  set_is =
      let words = sync_words m lawful t rest e in
      let low : (sets_of t (layout_of t)).low ≡ low_bits kept = ap (λ (l : List ℕ). get_or l 0 0) words in
      let high : (sets_of t (layout_of t)).high ≡ high_bits kept = ap (λ (l : List ℕ). get_or l 1 0) words in
      ap₂ set_of low high ∙
      list_back m.actions kept lawful.few_actions (keep_rises (λ a. in_set m a m.tree) m.actions 0 1 m.actions (omega arith) (omega arith))

  -- is the one that Definition 4's automaton has
  its_set : (linear_is m lawful).automaton.sync ≡ kept
  unfolding linear
  its_set = sym (ap (λ (xs : List Automaton). (get_or xs 0 nobody).sync) (linear_is m lawful).automata)

  set_holds : (a : ℕ) → Memᴰ a (set_of (sets_of t (layout_of t)).low (sets_of t (layout_of t)).high) ↔ Memᴰ a (linear_is m lawful).A
  set_holds a = rw (set_is ∙ sym its_set) ((linear_is m lawful).sync a)

  module _ (fits : row32_with_repeats m ≡ false) where
    abbrev takers : List ℕ
    takers = takers_for t (layout_of t)

    recorded : (k : ℕ) → k < count_with_repeats m → Recorded m t (get_or (all_moves m) k (moved 0 [])) (run takers (16 * k) 16)
    unfolding takers_for
    recorded k h = move_recorded m lawful t rest e fits (replicate table_words 0) (length-replicate {A = ℕ} table_words 0) k h

    count : (gathered_in t (layout_of t)).edges ≡ count_with_repeats m
    unfolding gathered_in
    count = count_exact m lawful t rest e fits

    -- the labels of move v
    abbrev Told : Move → ℕ → Type 0
    Told v k = Labelled t (run takers (16 * k) 16) (length cards) v.action (positions (λ d. d.from) m.tree v.takers) (map (λ y. y.edge.update) v.takers)
        (positions (λ d. d.to) m.tree v.takers)

    told : (k : ℕ) → k < count_with_repeats m → Told (get_or (all_moves m) k (moved 0 [])) k
    told k h = rw as_many (labelled m lawful t rest e (get_or (all_moves m) k (moved 0 [])) (run takers (16 * k) 16) (recorded k h))

    transition_told : (k : ℕ) → k < count_with_repeats m
        → (a : ℕ) × (vs : List Position) × (r : List Pred) × (vs' : List Position)
        × Labelled t (run takers (16 * k) 16) (length cards) a vs r vs' × Transition m a m.tree vs r vs'
    transition_told k h =
        let v = get_or (all_moves m) k (moved 0 []) in
        let by : TakenBy m v.action m.tree (positions (λ d. d.from) m.tree v.takers) (map (λ y. y.edge.update) v.takers) (positions (λ d. d.to) m.tree v.takers) =
        record { takers = v.takers; listed = (recorded k h).listed; labels = labels_own m.tree v.takers } in
        (v.action, _, _, _, told k h, (transitions_are m v.action m.tree 0 (numbered m.tree N lawful.tree.in_order) _ _ _).1 by)

    move_listed : (a : ℕ) (ts : List Taker) → a ≤ m.actions → Memᴰ ts (moves m a m.tree) → Memᴰ (moved a ts) (all_moves m)
    unfolding all_moves
    move_listed a ts l i = joined_in (λ b. map (moved b) (moves m b m.tree)) (counted_in a 0 (suc m.actions) (omega arith) (omega arith)) (Memᴰ.map (moved a) i)

    each_told : (a : ℕ) (vs : List Position) (r : List Pred) (vs' : List Position) → Transition m a m.tree vs r vs'
        → (k : ℕ) × (k < count_with_repeats m) × Labelled t (run takers (16 * k) 16) (length cards) a vs r vs'
    each_told a vs r vs' s =
        let by = (transitions_are m a m.tree 0 (numbered m.tree N lawful.tree.in_order) vs r vs').0 s in
        let at = index_of (moved 0 []) (move_listed a by.takers (transition_bounded m lawful a s) by.listed) in
        let k = at.0 in
        let few : k < count_with_repeats m = subst (λ n. k < n) (moves_total m ∙ repeats_counted m) at.1 in
        let labels = by.labels in
        let here : Told (moved a by.takers) k = subst (λ (v : Move). Told v k) at.2 (told k few) in
        (k, few, told_as t labels.before labels.conjuncts labels.after here)

  -- so many edges as a sheet can have: row 32 does not refuse
  few : (gathered_in t (layout_of t)).edges ≤ max_edges → row32_with_repeats m ≡ false
  unfolding gathered_in
  few h = sym (count_row m lawful t rest e) ∙ le-ltb max_edges _ h

  -- the law
  pub gathers : Gathers m t (gathered_in t (layout_of t)) (takers_for t (layout_of t))
  unfolding gathered_in
  gathers =
      let p = linear_is m lawful in
      record {
        xs = cards;
        leads_xs = wilds_to (λ d. d.from) m.tree;
        as_many = laid_automata m lawful t rest e ∙ sym as_many;
        standing = λ i h. automaton_stands i (omega (arith, as_many));
        fs = map (values_of (λ l. l.init)) m.automata;
        leads_fs = leads_are m (λ l. l.init) lawful;
        inits = holds t (λ l. l.init) m.automata _ lawful.few_automata (init_functions m lawful t rest e);
        us = starts m.tree;
        leads_us = (conditions_are m.tree (starts m.tree)).1 refl;
        starts = starts_hold;
        gs = map (values_of (λ l. l.inv)) m.automata;
        leads_gs = leads_are m (λ l. l.inv) lawful;
        invs = holds t (λ l. l.inv) m.automata _ lawful.few_automata (inv_functions m lawful t rest e);
        A = p.A;
        leads_A = p.leads_A;
        set = set_holds;
        transition = λ n k h. transition_told (few n) k (omega (arith, count (few n)));
        each_transition = λ n a vs r vs' s. let f = each_told (few n) a vs r vs' s in (f.0, omega (arith, f.1, count (few n)), f.2);
      }
