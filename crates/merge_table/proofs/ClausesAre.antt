-- The clauses of the merged init and inv are those of the merged model, and the start conditions stand behind them; their
-- nodes are counted without being listed.
use mathlib.Core.Path.{◌≡◌, refl, sym, ap, ap₂, ◌∙◌, subst}
use mathlib.Core.Bool.{Bool, true, false}
use mathlib.Core.List.{List, [], ◌∷◌, ◌++◌, append_assoc, append-nil, map, map-append, flat_map}
use Prim.Native.Nat.{ℕ, suc, ◌+◌, ◌≤◌, ◌<◌}
use native.Mathlib.Omega.{arith}
use native.Mathlib.Nat.{add-zero}
use native.Mathlib.Numerals.{add-one}
use lib.IntN.{ℤ, pos}
use lib.ListN.{length, get_or, drop, replicate, length-append, length-map, length-replicate}
use lib.Seq.{sets-eq, drop-drop}
use lib.Dec.{leb}
use borrow.Author.Tests.{leb-true, leb-false}
use Rattle.model.specs.Basic.{sum}
use Rattle.model.specs.Bounds.{bias, max_automata}
use Rattle.model.specs.Predicate.{Pred, all, imp, eq, num, old, preds, Word, all_of, imp_word, eq_word, num_word, old_word, words, words_all, words_of, operands, node_count}
use Rattle.model.specs.Composition.{starts}
use Rattle.model.specs.Model.{Location, Automaton, Model}
use Rattle.model.specs.Lawful.{Lawful}
use Rattle.model.specs.Table.{code, pred_words, sheet_words}
use Rattle.model.specs.Linear.{pointer, at_locations, at_automata, merged_init, merged_inv}
use Rattle.model.proofs.Lists.{sum_append}
use Rattle.model.proofs.LinearLimits.{preds_count, locations_length}
use Rattle.table_places.specs.declared.layout.Layout.{Layout}
use Rattle.table_places.specs.Outline.{after_predicate}
use Rattle.table_places.specs.Layout.{layout_of, automata_of}
use Rattle.table_places.proofs.LayoutLaws.{all_automata}
use Rattle.table_places.proofs.OutlineLaws.{read, node_count_lem}
use Rattle.node_words.specs.declared.Node.TheVariants.{All, Number, Old}
use Rattle.node_words.specs.Nodes.{word_for}
use Rattle.node_words.proofs.NodeLaws.{unbiased_up, all_held, old_held, number_held}
use Rattle.merge_append.specs.Append.{narrow}
use Rattle.merge_append.specs.NodeWords.{all_node, number_node, old_node, pointer_of, most, capped}
use Rattle.merge_predicates.specs.declared.functions.Functions.{Functions}
use Rattle.merge_predicates.specs.declared.starts.Starts.{Starts}
use Rattle.merge_predicates.specs.Functions.{functions_of}
use Rattle.merge_predicates.specs.Starts.{starts_of, no_starts, add_starts, start_nodes_at}
use Rattle.merge_predicates.specs.Clauses.{clause_words, value_clauses, function_clauses, value_nodes, merged_nodes, merged_operands, merged_words}
use Rattle.merge_append.proofs.NodeLaws.{capped_over, capped_is}
use Rattle.merge_table.proofs.Standing.{narrow_is, nodes_stand}
use Rattle.merge_table.proofs.HeadIs.{pointer_sum, upward_small, laid_variables}
use Rattle.merge_table.proofs.FunctionsAre.{predicates, sizes, Stands, AllStand, from_index, stand_first, stand_rest, stand_left, stand_right, AreFunctions, init_functions, inv_functions}
use Rattle.merge_table.proofs.StartsAre.{first_stands, others_stand, AreStarts, no_starts_lem, starts_are}

-- sums that stay within a word
pub capped_most : (n : ℕ) → capped n ≤ most
capped_most n = go (leb n most) refl
  where
    go : (b : Bool) → leb n most ≡ b → capped n ≤ most
    go true h = let l = leb-true n most h in let e = capped_is n l in omega arith
    go false h = let l = leb-false n most h in let e = capped_over n l in omega arith

pub capped_add : (a b : ℕ) → capped (capped a + b) ≡ capped (a + b)
capped_add a b = go (leb a most) refl
  where
    go : (c : Bool) → leb a most ≡ c → capped (capped a + b) ≡ capped (a + b)
    go true h = ap (λ n. capped (n + b)) (sym (capped_is a (leb-true a most h)))
    go false h =
        let l = leb-false a most h in
        ap (λ n. capped (n + b)) (sym (capped_over a l)) ∙ last (leb b 0) refl ∙ capped_over (a + b) (omega arith)
      where
        last : (c : Bool) → leb b 0 ≡ c → capped (most + b) ≡ most
        last true q = let z = leb-true b 0 q in let e : most + b ≡ most = omega arith in ap capped e ∙ sym (capped_is most (omega arith))
        last false q = let z = leb-false b 0 q in sym (capped_over (most + b) (omega arith))

-- the words of predicates in a row
pub all_append : (ps qs : List Pred) → words_all (preds (ps ++ qs)) ≡ words_all (preds ps) ++ words_all (preds qs)
unfolding preds words words_all words_of
all_append [] qs = refl
all_append (p ∷ ps) qs = ap (λ (l : List Word). words p ++ l) (all_append ps qs) ∙ sym (append_assoc (words p) (words_all (preds ps)) (words_all (preds qs)))

abbrev pub codes : List Pred → List ℕ
codes ps = map code (words_all (preds ps))

pub codes_append : (ps qs : List Pred) → codes (ps ++ qs) ≡ codes ps ++ codes qs
codes_append ps qs = ap (map code) (all_append ps qs) ∙ map-append code (words_all (preds ps)) (words_all (preds qs))

pub codes_cons : (p : Pred) (ps : List Pred) → codes (p ∷ ps) ≡ map code (words p) ++ codes ps
unfolding preds words words_all words_of
codes_cons p ps = map-append code (words p) (words_all (preds ps))

-- the nodes of small numbers
pub number_code : (z : ℕ) → z < 65536 → number_node z ≡ code (num_word (pos z))
unfolding number_node
number_code z h =
    ap (λ (n : ℕ). word_for (Number (narrow n))) (upward_small z (omega arith)) ∙
    ap (λ (n : ℕ). word_for (Number n)) (narrow_is (bias + z) (omega arith)) ∙ number_held (bias + z) (omega arith) ∙
    ap (λ (y : ℤ). code (num_word y)) (unbiased_up z)

pub old_code : (k : ℕ) → k < 65536 → old_node k ≡ code (old_word k)
unfolding old_node
old_code k h = ap (λ (n : ℕ). word_for (Old n)) (narrow_is k (omega arith)) ∙ old_held k (omega arith)

pub all_code : (k : ℕ) → k < 65536 → all_node k ≡ code (all_of k)
unfolding all_node
all_code k h = ap (λ (n : ℕ). word_for (All n)) (narrow_is k (omega arith)) ∙ all_held k (omega arith)

-- one item on
drop_next : (l : List ℕ) (i w : ℕ) (others : List ℕ) → drop i l ≡ w ∷ others → drop (suc i) l ≡ others
drop_next l i w others e = ap (λ k. drop k l) (sym (add-one i)) ∙ sym (drop-drop 1 i l) ∙ ap (drop 1) e

module _ (m : Model) (part : Location → Pred) (t : List ℕ) where
  clause_is : (i k j at : ℕ) (p : Pred) → k ≡ pointer m i → k < 65536 → j < 65536 → Stands t at p
      → clause_words t k j at ≡ map code (words (imp (eq (old (pointer m i)) (num (pos j))) p))
  unfolding clause_words words words_all words_of
  clause_is i k j at p ek hk hj s =
      rw (old_code k hk, number_code j hj, ek) (ap (λ (ws : List ℕ). code imp_word ∷ code eq_word ∷ code (old_word (pointer m i)) ∷ code (num_word (pos j)) ∷ ws) (nodes_stand t at p s.others s.words))

  module _ (places : List ℕ) where
    locations_are : (ls : List Location) (i k first j : ℕ) → k ≡ pointer m i → k < 65536 → first + j + length ls < 65536 → AllStand t places (first + j) (map part ls)
        → value_clauses t places first k j (length ls) ≡ codes (at_locations m part i j ls)
    unfolding value_clauses at_locations preds words words_all words_of
    locations_are [] i k first j ek hk h s = refl
    locations_are (l ∷ ls) i k first j ek hk h s =
        let p = imp (eq (old (pointer m i)) (num (pos j))) (part l) in
        let index : capped (first + j) ≡ first + j = sym (capped_is (first + j) (omega arith)) in
        let next : suc (first + j) ≡ first + suc j = omega arith in
        let c : clause_words t k j (get_or places (capped (first + j)) 0) ≡ map code (words p) =
        ap (λ n. clause_words t k j (get_or places n 0)) index ∙ clause_is i k j _ (part l) ek hk (omega arith) (stand_first t places (first + j) (part l) (map part ls) s) in
        let o = locations_are ls i k first (suc j) ek hk (omega arith) (from_index t places _ _ (map part ls) next (stand_rest t places (first + j) (part l) (map part ls) s)) in
        rw (add-one j) (ap₂ (λ (a b : List ℕ). a ++ b) c o ∙ sym (codes_cons p (at_locations m part i (suc j) ls)))

    automata_are : (domains zeros : List ℕ) (xs : List Automaton) (v i first : ℕ) → v ≡ length m.variables → v < 32768 → i + length xs < 32768
        → first + length (predicates part xs) < 32768 → drop i domains ≡ sizes xs ++ zeros → AllStand t places first (predicates part xs)
        → function_clauses t domains places v i (length xs) first ≡ codes (at_automata m part i xs)
    unfolding function_clauses at_automata preds words words_all words_of flat_map
    automata_are domains zeros [] v i first ev hv h few e s = refl
    automata_are domains zeros (x ∷ xs) v i first ev hv h few e s =
        let ls = x.locations in
        let ps = map part ls in
        let qs = predicates part xs in
        let l : length ps ≡ length ls = length-map ls part in
        let b : length (ps ++ qs) ≡ length ps + length qs = length-append ps qs in
        let d : get_or domains i 0 ≡ length ls = read domains i (length ls) (sizes xs ++ zeros) e in
        let k : pointer_of v i ≡ v + i = pointer_sum v i (omega arith) (omega arith) in
        let kp : pointer_of v i ≡ pointer m i = k ∙ point v i ev in
        let kh : pointer_of v i < 65536 = omega arith in
        let z : first ≡ first + 0 = omega arith in
        let next : capped (first + get_or domains i 0) ≡ first + length ps = sym (capped_is (first + get_or domains i 0) (omega arith)) ∙ omega arith in
        let c = locations_are ls i (pointer_of v i) first 0 kp kh (omega arith) (from_index t places _ _ ps z (stand_left t places first ps qs s)) in
        let o = automata_are domains zeros xs v (suc i) (first + length ps) ev hv (omega arith) (omega arith) (drop_next domains i (length ls) (sizes xs ++ zeros) e) (stand_right t places first ps qs s) in
        rw (add-one i, next, d) (ap₂ (λ (a b : List ℕ). a ++ b) c o ∙ sym (codes_append (at_locations m part i 0 ls) (at_automata m part (suc i) xs)))
      where
        point : (u j : ℕ) → u ≡ length m.variables → u + j ≡ pointer m j
        point u j q = unfold pointer in ap (λ w. w + j) q

-- the start conditions, one after the other: their words, and how many nodes they have
starts_words : (t : List ℕ) (ps : List Pred) (at : ℕ) (rest : List ℕ) → drop at t ≡ flat_map pred_words ps ++ rest → start_nodes_at t at (length ps) ≡ codes ps
unfolding start_nodes_at preds words_all
starts_words t [] at rest e = refl
starts_words t (p ∷ ps) at rest e =
    ap₂ (λ (a b : List ℕ). a ++ b) (nodes_stand t at p _ (first_stands t at p ps rest e)) (starts_words t ps (after_predicate t at) rest (others_stand t at p ps rest e)) ∙
    sym (codes_cons p ps)

starts_count : (t : List ℕ) (ps : List Pred) (at total : ℕ) (rest : List ℕ) → total ≤ most → drop at t ≡ flat_map pred_words ps ++ rest
    → add_starts t at (length ps) total ≡ capped (total + length (words_all (preds ps)))
unfolding add_starts preds words words_all words_of node_count
starts_count t [] at total rest h e = rw (add-zero total) (capped_is total h)
starts_count t (p ∷ ps) at total rest h e =
    let n = node_count p in
    let others = length (words_all (preds ps)) in
    let g : get_or t at 0 ≡ n = node_count_lem t at p _ (first_stands t at p ps rest e) in
    let size : total + n + others ≡ total + length (words p ++ words_all (preds ps)) = omega (arith, length-append (words p) (words_all (preds ps))) in
    ap (λ (k : ℕ). add_starts t (after_predicate t at) (length ps) (capped (total + k))) g ∙
    starts_count t ps (after_predicate t at) (capped (total + n)) rest (capped_most (total + n)) (others_stand t at p ps rest e) ∙ capped_add (total + n) others ∙ ap capped size

-- a clause's nodes are its four and the predicate's
abbrev clause_nodes : List Pred → ℕ
clause_nodes ps = sum (map (λ (p : Pred). 4 + node_count p) ps)

nodes_append : (ps qs : List Pred) → clause_nodes (ps ++ qs) ≡ clause_nodes ps + clause_nodes qs
nodes_append ps qs = let f : Pred → ℕ = λ p. 4 + node_count p in ap sum (map-append f ps qs) ∙ sum_append (map f ps) (map f qs)

-- counted
values_count : (t places : List ℕ) (ps : List Pred) (i total : ℕ) → total ≤ most → AllStand t places i ps → value_nodes t places i (length ps) total ≡ capped (total + clause_nodes ps)
unfolding value_nodes sum
values_count t places [] i total h s = rw (add-zero total) (capped_is total h)
values_count t places (p ∷ ps) i total h s =
    let here = stand_first t places i p ps s in
    let n = node_count p in
    let g : get_or t (get_or places i 0) 0 ≡ n = node_count_lem t (get_or places i 0) p here.others here.words in
    let size : total + 4 + n + clause_nodes ps ≡ total + (4 + n + clause_nodes ps) = omega arith in
    ap₂ (λ (j k : ℕ). value_nodes t places j (length ps) (capped (capped (total + 4) + k))) (add-one i) g ∙
    values_count t places ps (suc i) (capped (capped (total + 4) + n)) (capped_most (capped (total + 4) + n)) (stand_rest t places i p ps s) ∙
    ap (λ x. capped (x + clause_nodes ps)) (capped_add (total + 4) n) ∙ capped_add (total + 4 + n) (clause_nodes ps) ∙ ap capped size

-- listed
module _ (m : Model) (part : Location → Pred) where
  locations_list : (i j : ℕ) (ls : List Location) → length (words_all (preds (at_locations m part i j ls))) ≡ clause_nodes (map part ls)
  unfolding at_locations preds words words_all words_of node_count sum
  locations_list i j [] = refl
  locations_list i j (l ∷ ls) =
      let others = words_all (preds (at_locations m part i (suc j) ls)) in
      omega (arith, length-append (words (part l)) others, locations_list i (suc j) ls)

  automata_list : (i : ℕ) (xs : List Automaton) → length (words_all (preds (at_automata m part i xs))) ≡ clause_nodes (predicates part xs)
  unfolding at_automata preds words_all sum flat_map
  automata_list i [] = refl
  automata_list i (x ∷ xs) =
      let here = at_locations m part i 0 x.locations in
      let others = at_automata m part (suc i) xs in
      ap length (all_append here others) ∙
      omega (arith, length-append (words_all (preds here)) (words_all (preds others)), locations_list i 0 x.locations, automata_list (suc i) xs, nodes_append (map part x.locations) (predicates part xs))

  -- as many clauses as predicates
  clauses_count : (i : ℕ) (xs : List Automaton) → length (at_automata m part i xs) ≡ length (predicates part xs)
  unfolding at_automata flat_map
  clauses_count i [] = refl
  clauses_count i (x ∷ xs) =
      omega (
        arith,
        length-append (at_locations m part i 0 x.locations) (at_automata m part (suc i) xs),
        length-append (map part x.locations) (predicates part xs),
        locations_length m part i 0 x.locations,
        length-map x.locations part,
        clauses_count (suc i) xs,
      )

module _ (m : Model) (lawful : Lawful m) (t rest : List ℕ) (e : t ≡ sheet_words m ++ rest) where
  abbrev lay : Layout
  lay = layout_of t

  module _ (part : Location → Pred) (f : Functions) (are : AreFunctions t part m.automata f) where
    abbrev clauses : List Pred
    clauses = at_automata m part 0 m.automata

    clauses_are : function_clauses t f.domains f.places lay.variables 0 (automata_of lay) 0 ≡ codes clauses
    clauses_are =
        let fv = lawful.few_variables in
        let fn = lawful.few_automata in
        let few = are.few in
        let xs = m.automata in
        let zeros : List ℕ = replicate max_automata 0 in
        let n : length (sizes xs) ≡ length xs = length-map xs (λ (x : Automaton). length x.locations) in
        let filled : f.domains ≡ sizes xs ++ drop (0 + length (sizes xs)) zeros = are.domains ∙ sets-eq (sizes xs) zeros 0 (omega (arith, length-replicate {A = ℕ} max_automata 0)) in
        ap₂ (λ v k. function_clauses t f.domains f.places v 0 k 0) (laid_variables m lawful t rest e) (all_automata m lawful t rest e) ∙
        automata_are m part t f.places f.domains _ xs (length m.variables) 0 0 refl (omega arith) (omega arith) (omega arith) filled are.values

    -- with the start conditions after them
    module _ (ps : List Pred) (s : Starts) (stand : AreStarts t ps s) where
      abbrev whole : List Pred
      whole = clauses ++ ps

      -- the count of nodes is the merged predicate's
      nodes_are : merged_nodes t f s ≡ capped (node_count (all (preds whole)))
      unfolding merged_nodes node_count words words_all words_of
      nodes_are =
          let vs = predicates part m.automata in
          let first = 1 + clause_nodes vs in
          let more = length (words_all (preds ps)) in
          let own : value_nodes t f.places 0 f.total 1 ≡ capped first =
          ap (λ n. value_nodes t f.places 0 n 1) are.total ∙ values_count t f.places vs 0 1 (omega arith) are.values in
          let size : first + more ≡ suc (length (words_all (preds whole))) =
          omega (arith, automata_list m part 0 m.automata, ap length (all_append clauses ps), length-append (words_all (preds clauses)) (words_all (preds ps))) in
          ap₂ (λ n k. add_starts t s.first n k) stand.count own ∙ starts_count t ps s.first (capped first) stand.rest (capped_most first) stand.words ∙
          capped_add first more ∙ ap capped size

      -- K is how many predicates `all K` has
      operands_are : f.total + s.count ≡ operands (preds whole)
      operands_are = sym (preds_count whole ∙ omega (arith, length-append clauses ps, clauses_count m part 0 m.automata, are.total, stand.count))

      words_are : node_count (all (preds whole)) ≤ most → merged_words t lay f s ≡ pred_words (all (preds whole))
      unfolding merged_words merged_operands pred_words words words_all words_of
      words_are few =
          let k = operands (preds whole) in
          let small : k < 65536 = omega (arith, sym operands_are, are.total, are.few, stand.count, stand.few) in
          let node : all_node (capped (f.total + s.count)) ≡ code (all_of k) =
          ap (λ n. all_node (capped n)) operands_are ∙ ap all_node (sym (capped_is k (omega arith))) ∙ all_code k small in
          let nodes : merged_nodes t f s ≡ node_count (all (preds whole)) = nodes_are ∙ sym (capped_is (node_count (all (preds whole))) few) in
          let after : start_nodes_at t s.first s.count ≡ codes ps = ap (start_nodes_at t s.first) stand.count ∙ starts_words t ps s.first stand.rest stand.words in
          rw (nodes, node, clauses_are, after) (ap (λ (l : List ℕ). node_count (all (preds whole)) ∷ code (all_of k) ∷ l) (sym (codes_append clauses ps)))

  -- the merged init's words and nodes, and the merged inv's, which has no start conditions
  abbrev fs : Functions
  fs = functions_of t lay false

  abbrev gs : Functions
  gs = functions_of t lay true

  pub init_words : node_count (merged_init m) ≤ most → merged_words t (layout_of t) (functions_of t (layout_of t) false) (starts_of t (layout_of t)) ≡ pred_words (merged_init m)
  unfolding merged_init
  init_words = words_are (λ l. l.init) fs (init_functions m lawful t rest e) (starts m.tree) (starts_of t lay) (starts_are m lawful t rest e)

  pub init_nodes : merged_nodes t (functions_of t (layout_of t) false) (starts_of t (layout_of t)) ≡ capped (node_count (merged_init m))
  unfolding merged_init
  init_nodes = nodes_are (λ l. l.init) fs (init_functions m lawful t rest e) (starts m.tree) (starts_of t lay) (starts_are m lawful t rest e)

  abbrev inv_clauses : List Pred
  inv_clauses = at_automata m (λ l. l.inv) 0 m.automata

  pub inv_words : node_count (merged_inv m) ≤ most → merged_words t (layout_of t) (functions_of t (layout_of t) true) no_starts ≡ pred_words (merged_inv m)
  unfolding merged_inv
  inv_words =
      subst (λ (ps : List Pred). node_count (all (preds ps)) ≤ most → merged_words t lay gs no_starts ≡ pred_words (all (preds ps))) (append-nil inv_clauses)
      (words_are (λ l. l.inv) gs (inv_functions m lawful t rest e) [] no_starts (no_starts_lem t))

  pub inv_nodes : merged_nodes t (functions_of t (layout_of t) true) no_starts ≡ capped (node_count (merged_inv m))
  unfolding merged_inv
  inv_nodes =
      nodes_are (λ l. l.inv) gs (inv_functions m lawful t rest e) [] no_starts (no_starts_lem t) ∙
      ap (λ (ps : List Pred). capped (node_count (all (preds ps)))) (append-nil inv_clauses)
