-- The tests of depth are row 33's: of the merged init and inv, and of a merged edge's update.
use mathlib.Core.Path.{◌≡◌, refl, sym, ap, ap₂, ◌∙◌}
use mathlib.Core.Bool.{Bool, true, false, ◌||◌, or-false}
use mathlib.Core.List.{List, [], ◌∷◌, ◌++◌, append-nil, map, flat_map, Memᴰ}
use Prim.Native.Nat.{ℕ, suc, max, ◌≤◌, ◌<◌}
use native.Mathlib.Omega.{arith}
use native.Mathlib.Numerals.{add-one}
use lib.IntN.{pos}
use lib.ListN.{length, get_or, drop}
use lib.Dec.{ltb}
use borrow.Author.Tests.{ltb-true, ltb-false, lt-ltb, le-ltb}
use Rattle.model.specs.Basic.{exists}
use Rattle.model.specs.Predicate.{Pred, all, imp, eq, num, old, preds, depth, depth_all, depth_of}
use Rattle.model.specs.Composition.{starts}
use Rattle.model.specs.Model.{Location, Automaton, Model}
use Rattle.model.specs.Rules.{Taker}
use Rattle.model.specs.Limits.{is_too_deep}
use Rattle.model.specs.Lawful.{Lawful}
use Rattle.model.specs.Table.{pred_words, sheet_words}
use Rattle.model.specs.Linear.{pointer, at_locations, at_automata, merged_init, merged_inv, pointer_moves, merged_edge}
use Rattle.model.proofs.Tests.{exists_append}
use Rattle.merge_predicates.specs.declared.functions.Functions.{Functions}
use Rattle.merge_predicates.specs.declared.starts.Starts.{Starts}
use Rattle.merge_predicates.specs.Functions.{functions_of}
use Rattle.merge_predicates.specs.Starts.{starts_of, no_starts}
use Rattle.merge_takers.specs.Taking.{takers}
use Rattle.merge_edges.specs.Edge.{updates_deep}
use Rattle.table_places.specs.Outline.{after_predicate}
use Rattle.table_places.specs.Layout.{layout_of}
use Rattle.merge_predicates.specs.Depths.{values_deeper, starts_deeper, merged_deep}
use Rattle.merge_table.proofs.FunctionsAre.{predicates, AllStand, stand_first, stand_rest, AreFunctions, init_functions, inv_functions}
use Rattle.merge_table.proofs.StartsAre.{first_stands, others_stand, AreStarts, no_starts_lem, starts_are}
use Rattle.merge_table.proofs.DepthsAre.{Readable, deeper_stands}
use Rattle.merge_table.proofs.EdgesAre.{Valid, takers_from, edge_deep}

-- one test of numbers is another, where each number is above its limit if the other is
same_test : (a b c d : ℕ) → (a < b → c < d) → (c < d → a < b) → ltb a b ≡ ltb c d
same_test a b c d f g = go (ltb c d) refl
  where
    go : (x : Bool) → ltb c d ≡ x → ltb a b ≡ x
    go true h = lt-ltb a b (g (ltb-true c d h))
    go false h =
        let l = ltb-false c d h in
        below (ltb a b) refl l
      where
        below : (y : Bool) → ltb a b ≡ y → d ≤ c → y ≡ false
        below true q l = let s = f (ltb-true a b q) in absurd (omega arith)
        below false q l = refl

or_test : (k a b : ℕ) → ltb k (max a b) ≡ (ltb k a || ltb k b)
or_test k a b = go (ltb k a) refl
  where
    go : (x : Bool) → ltb k a ≡ x → ltb k (max a b) ≡ (x || ltb k b)
    go true h = let l = ltb-true k a h in lt-ltb k (max a b) (omega arith)
    go false h = let l = ltb-false k a h in same_test k (max a b) k b (λ s. omega arith) (λ s. omega arith)

-- the deepest of some predicates
deepest_of : (k : ℕ) (ps : List Pred) → ltb k (depth_all (preds ps)) ≡ exists (λ p. ltb k (depth p)) ps
unfolding depth depth_all depth_of preds exists
deepest_of k [] = le-ltb k 0 (omega arith)
deepest_of k (p ∷ ps) = or_test k (depth p) (depth_all (preds ps)) ∙ ap (λ b. ltb k (depth p) || b) (deepest_of k ps)

all_deep : (ps : List Pred) → is_too_deep (all (preds ps)) ≡ exists (λ p. ltb 23 (depth p)) ps
unfolding is_too_deep depth depth_all depth_of
all_deep ps = same_test 24 (suc (depth_all (preds ps))) 23 (depth_all (preds ps)) (λ s. omega arith) (λ s. omega arith) ∙ deepest_of 23 ps

-- a clause is one deeper than what it takes in
clause_deep : (k j : ℕ) (p : Pred) → ltb 23 (depth (imp (eq (old k) (num (pos j))) p)) ≡ ltb 22 (depth p)
unfolding depth depth_all depth_of
clause_deep k j p = same_test 23 (suc (max (suc (max 1 1)) (depth p))) 22 (depth p) (λ s. omega arith) (λ s. omega arith)

abbrev is_deep : Pred → Bool
is_deep p = ltb 22 (depth p)

module _ (m : Model) (part : Location → Pred) where
  clauses_deep : (i j : ℕ) (ls : List Location) → exists (λ p. ltb 23 (depth p)) (at_locations m part i j ls) ≡ exists is_deep (map part ls)
  unfolding at_locations exists
  clauses_deep i j [] = refl
  clauses_deep i j (l ∷ ls) = ap₂ (λ (a b : Bool). a || b) (clause_deep (pointer m i) j (part l)) (clauses_deep i (suc j) ls)

  automata_deep : (i : ℕ) (xs : List Automaton) → exists (λ p. ltb 23 (depth p)) (at_automata m part i xs) ≡ exists is_deep (predicates part xs)
  unfolding at_automata exists flat_map
  automata_deep i [] = refl
  automata_deep i (x ∷ xs) =
      exists_append (λ p. ltb 23 (depth p)) (at_locations m part i 0 x.locations) (at_automata m part (suc i) xs) ∙
      ap₂ (λ (a b : Bool). a || b) (clauses_deep i 0 x.locations) (automata_deep (suc i) xs) ∙
      sym (exists_append is_deep (map part x.locations) (predicates part xs))

-- the values, read where they stand
values_read : (t places : List ℕ) (ps : List Pred) (i : ℕ) → AllStand t places i ps → values_deeper t 22 places i (length ps) ≡ exists is_deep ps
unfolding values_deeper exists
values_read t places [] i s = refl
values_read t places (p ∷ ps) i s =
    let here = stand_first t places i p ps s in
    rw (add-one i)
    (ap₂ (λ (a b : Bool). a || b) (deeper_stands t p 22 (get_or places i 0) here.others here.said here.words) (values_read t places ps (suc i) (stand_rest t places i p ps s)))

-- and the start conditions
starts_read : (t : List ℕ) (ps : List Pred) (at : ℕ) (rest : List ℕ) → ((p : Pred) → Memᴰ p ps → Readable p) → drop at t ≡ flat_map pred_words ps ++ rest
    → starts_deeper t 23 at (length ps) ≡ exists (λ p. ltb 23 (depth p)) ps
unfolding starts_deeper exists
starts_read t [] at rest said e = refl
starts_read t (p ∷ ps) at rest said e =
    ap₂ (λ (a b : Bool). a || b) (deeper_stands t p 23 at _ (said p (Memᴰ.head refl)) (first_stands t at p ps rest e))
    (starts_read t ps (after_predicate t at) rest (λ q i. said q (Memᴰ.tail i)) (others_stand t at p ps rest e))

whole_deep : (m : Model) (t : List ℕ) (part : Location → Pred) (f : Functions) → AreFunctions t part m.automata f → (ps : List Pred) (s : Starts) → AreStarts t ps s
    → merged_deep t f s ≡ is_too_deep (all (preds (at_automata m part 0 m.automata ++ ps)))
unfolding merged_deep
whole_deep m t part f are ps s stand =
    let clauses = at_automata m part 0 m.automata in
    ap₂ (λ (a b : Bool). a || b)
    (ap (values_deeper t 22 f.places 0) are.total ∙ values_read t f.places (predicates part m.automata) 0 are.values ∙ sym (automata_deep m part 0 m.automata))
    (ap (starts_deeper t 23 s.first) stand.count ∙ starts_read t ps s.first stand.rest stand.said stand.words) ∙
    sym (all_deep (clauses ++ ps) ∙ exists_append (λ p. ltb 23 (depth p)) clauses ps)

-- the pointer moves are not deep
moves_shallow : (m : Model) (ts : List Taker) → exists (λ p. ltb 23 (depth p)) (pointer_moves m ts) ≡ false
unfolding pointer_moves exists depth depth_all depth_of
moves_shallow m [] = refl
moves_shallow m (x ∷ xs) = moves_shallow m xs

updates_deep_lem : (ts : List Taker) → exists (λ p. ltb 23 (depth p)) (map (λ (y : Taker). y.edge.update) ts) ≡ exists (λ (y : Taker). ltb 23 (depth y.edge.update)) ts
unfolding exists
updates_deep_lem [] = refl
updates_deep_lem (x ∷ xs) = ap (λ b. ltb 23 (depth x.edge.update) || b) (updates_deep_lem xs)

module _ (m : Model) (lawful : Lawful m) (t rest : List ℕ) (e : t ≡ sheet_words m ++ rest) where
  pub init_deep : merged_deep t (functions_of t (layout_of t) false) (starts_of t (layout_of t)) ≡ is_too_deep (merged_init m)
  unfolding merged_init
  init_deep =
      whole_deep m t (λ l. l.init) (functions_of t (layout_of t) false) (init_functions m lawful t rest e) (starts m.tree) (starts_of t (layout_of t)) (starts_are m lawful t rest e)

  pub inv_deep : merged_deep t (functions_of t (layout_of t) true) no_starts ≡ is_too_deep (merged_inv m)
  unfolding merged_inv
  inv_deep =
      whole_deep m t (λ l. l.inv) (functions_of t (layout_of t) true) (inv_functions m lawful t rest e) [] no_starts (no_starts_lem t) ∙
      ap (λ (ps : List Pred). is_too_deep (all (preds ps))) (append-nil (at_automata m (λ l. l.inv) 0 m.automata))

  pub edge_too_deep : (action : ℕ) (picks : List ℕ) → Valid action picks 0 m.automata → updates_deep t (takers t (layout_of t) action picks) ≡ is_too_deep (merged_edge m action (takers_from action picks 0 m.automata)).update
  unfolding merged_edge
  edge_too_deep action picks valid =
      let ts = takers_from action picks 0 m.automata in
      let us = map (λ (y : Taker). y.edge.update) ts in
      edge_deep m lawful t rest e action picks valid ∙
      sym (all_deep (us ++ pointer_moves m ts) ∙ exists_append (λ p. ltb 23 (depth p)) us (pointer_moves m ts) ∙
      ap₂ (λ (a b : Bool). a || b) (updates_deep_lem ts) (moves_shallow m ts) ∙ or-false (exists (λ (y : Taker). ltb 23 (depth y.edge.update)) ts))
