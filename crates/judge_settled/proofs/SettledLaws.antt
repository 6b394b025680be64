-- On the words of a lawful model, what the code tests of two states is `settled` of the definitions.
use mathlib.Core.Path.{◌≡◌, refl, ap, ◌∙◌}
use mathlib.Core.Bool.{Bool, true, false, ◌&&◌}
use mathlib.Core.List.Memᴰ
use mathlib.Core.List.{List, [], ◌∷◌, ◌++◌, append_assoc, map, flat_map, Memᴰ}
use Prim.Native.Nat.{ℕ, ◌≤◌, ◌<◌}
use native.Mathlib.Omega.{arith}
use lib.ListN.{length, take, drop, length-append, length-map}
use lib.Seq.{take_at}
use Rattle.model.specs.Basic.{every}
use Rattle.model.specs.Bounds.{max_nodes}
use Rattle.model.specs.Predicate.{Pred, words, node_count}
use Rattle.model.specs.Composition.{starts, start_nodes}
use Rattle.model.specs.Model.{Location, Model, nowhere, nobody, automaton, location}
use Rattle.model.specs.Lawful.{LawfulPred, LawfulLocation, Lawful}
use Rattle.model.specs.Table.{code, pred_words, sheet_words}
use Rattle.model.specs.Rules as R
use Rattle.model.specs.Judge.{inits, invs, starts_hold, initial, settled}
use Rattle.model.proofs.Tests.{and_same}
use Rattle.evaluator.proofs.Items.{item_in}
use Rattle.evaluator.proofs.Meaning.{evaluate_lawful}
use Rattle.evaluator.proofs.FewNodes.{init_nodes, inv_nodes}
use Rattle.table_places.specs.Outline.{nodes_place, after_predicate, first_location, automaton_at}
use Rattle.table_places.specs.Layout.{layout_of}
use Rattle.table_places.proofs.OutlineLaws.{nodes_stand, after_predicate_lem, first_location_lem}
use Rattle.table_places.proofs.LayoutLaws.{all_variables, tree_line}
use Rattle.table_places.proofs.Standing.{init_stands, inv_stands, automaton_stands}
use Rattle.table_places.proofs.StartLaws.{start_count_lem, first_start_lem}
use Rattle.judge_rows.specs.declared.Phase.{Phase}
use Rattle.judge_rows.specs.declared.Phase.TheVariants.{Start, Running}
use Rattle.judge_rows.specs.declared.State.{State}
use Rattle.judge_settled.specs.declared.Part.{Part}
use Rattle.judge_settled.specs.declared.Part.TheVariants.{Init, Inv}
use Rattle.judge_rows.specs.Phases.{phase_is}
use Rattle.judge_settled.specs.Settled.{part_at, part_holds, location_holds, all_hold, hold_from, starts_hold_at, started_in, settled_at}
use Rattle.judge_settled.proofs.CodeLaws.{hold_cons}
use Rattle.judge_rows.proofs.RowLaws.{each_automaton}
use Rattle.judge_rows.proofs.StateLaws.{Shows}

unfoldable part_of : Part → Location → Pred
part_of Init l = l.init
part_of Inv l = l.inv

-- a predicate has no more nodes than all of a list together
one_of_all : (ps : List Pred) (p : Pred) → Memᴰ p ps → node_count p ≤ length (flat_map words ps)
unfolding flat_map node_count
one_of_all [] p i = absurd (Memᴰ.not-nil i)
one_of_all (q ∷ ps) p (Memᴰ.head e) = let n : length (words p) ≡ length (words q) = ap (λ (r : Pred). length (words r)) e in omega (arith, length-append (words q) (flat_map words ps))
one_of_all (q ∷ ps) p (Memᴰ.tail i) = omega (arith, length-append (words q) (flat_map words ps), one_of_all ps p i)

module _ (m : Model) (lawful : Lawful m) where
  -- so has the P of an `ini`, and it is lawful
  lawful_start : (p : Pred) → Memᴰ p (starts m.tree) → LawfulPred m.variables p × (node_count p ≤ max_nodes)
  unfolding start_nodes
  lawful_start p i = ((lawful.starts p i).pred, omega (arith, lawful.few_nodes, one_of_all (starts m.tree) p i))

  -- a location's predicates are lawful, and have no more nodes than all of them
  module _ (k j : ℕ) (h : k < length m.automata) (i : j < length (automaton m k).locations) where
    in_sheet : Memᴰ (automaton m k) m.automata
    in_sheet = item_in m.automata k nobody h

    in_automaton : Memᴰ (location m k j) (automaton m k).locations
    in_automaton = item_in (automaton m k).locations j nowhere i

    lawful_location : LawfulLocation m.variables (location m k j)
    lawful_location = (lawful.automata (automaton m k) in_sheet).locations (location m k j) in_automaton

    lawful_part : (part : Part) → LawfulPred m.variables (part_of part (location m k j)) × (node_count (part_of part (location m k j)) ≤ max_nodes)
    unfolding part_of
    lawful_part Init = (lawful_location.init, init_nodes m lawful (automaton m k) in_sheet (location m k j) in_automaton)
    lawful_part Inv = (lawful_location.inv, inv_nodes m lawful (automaton m k) in_sheet (location m k j) in_automaton)

  module _ (t rest : List ℕ) (e : t ≡ sheet_words m ++ rest) where
    -- the predicate that stands at a place
    module _ (s : State) (u : R.State) (shows : Shows m s u) where
      holds_at : (p : Pred) (at : ℕ) (more : List ℕ) → drop at t ≡ pred_words p ++ more → LawfulPred m.variables p × (node_count p ≤ max_nodes) → part_holds t (layout_of t) s.values at ≡ R.holds_in u p
      unfolding part_holds node_count
      holds_at p at more stands l =
          let nodes = map code (words p) in
          let n : take (length (words p)) (drop (nodes_place t at) t) ≡ nodes = ap (take (length (words p))) (nodes_stand t at p more stands) ∙ take_at nodes more (length (words p)) (simp length-map) in
          rw (all_variables m lawful t rest e, shows.values) (evaluate_lawful m.variables u.values u.values shows.inside shows.inside p t (nodes_place t at) n l.0 l.1)

      -- the predicate of automaton k's location
      location_at_lem : (part : Part) (k : ℕ) → k < length m.automata → location_holds t (layout_of t) part s (automaton_at t k) k ≡ R.holds_in u (part_of part (location m k (R.at u k)))
      unfolding location_holds part_at part_of
      location_at_lem part k h = rw (shows.locations k h) (go part (lawful_part k (R.at u k) h i part))
        where
          i : R.at u k < length (automaton m k).locations
          i = shows.known k h

          go : (p : Part) → LawfulPred m.variables (part_of p (location m k (R.at u k))) × (node_count (part_of p (location m k (R.at u k))) ≤ max_nodes)
              → part_holds t (layout_of t) s.values (part_at t p (automaton_at t k) (R.at u k)) ≡ R.holds_in u (part_of p (location m k (R.at u k)))
          go Init l = holds_at (location m k (R.at u k)).init _ _ (init_stands t _ (automaton m k).locations (first_location t (automaton_at t k)) (R.at u k) i (first_location_lem t _ (automaton m k) (automaton_at t k) (automaton_stands t rest m k h e))) l
          go Inv l = holds_at (location m k (R.at u k)).inv _ _ (inv_stands t _ (automaton m k).locations (first_location t (automaton_at t k)) (R.at u k) i (first_location_lem t _ (automaton m k) (automaton_at t k) (automaton_stands t rest m k h e))) l

      pub inits_is : all_hold t (layout_of t) Init s ≡ inits m u
      unfolding all_hold inits part_of
      inits_is = each_automaton m lawful t rest e (location_holds t (layout_of t) Init s) _ (location_at_lem Init)

      pub invs_is : all_hold t (layout_of t) Inv s ≡ invs m u
      unfolding all_hold invs part_of
      invs_is = each_automaton m lawful t rest e (location_holds t (layout_of t) Inv s) _ (location_at_lem Inv)

      -- some predicates, one after the other
      all_at : (ps : List Pred) (at : ℕ) (more : List ℕ) → drop at t ≡ flat_map pred_words ps ++ more
          → ((p : Pred) → Memᴰ p ps → LawfulPred m.variables p × (node_count p ≤ max_nodes)) → hold_from t (layout_of t) s.values at (length ps) ≡ every (R.holds_in u) ps
      unfolding hold_from flat_map every
      all_at [] at more stands l = refl
      all_at (p ∷ ps) at more stands l =
          let others = flat_map pred_words ps ++ more in
          let here : drop at t ≡ pred_words p ++ others = stands ∙ append_assoc (pred_words p) (flat_map pred_words ps) more in
          hold_cons t (layout_of t) s.values at (length ps) ∙
          and_same (holds_at p at others here (l p (Memᴰ.head refl)))
          (all_at ps (after_predicate t at) more (after_predicate_lem t at p others here) (λ q i. l q (Memᴰ.tail i)))

      pub starts_is : starts_hold_at t (layout_of t) s ≡ starts_hold m u
      unfolding starts_hold_at starts_hold
      starts_is =
          let line = tree_line m lawful t rest e in
          let few = lawful.tree.size in
          let first = first_start_lem t rest m.tree (layout_of t).tree line few in
          rw (start_count_lem t rest m.tree (layout_of t).tree line few) (all_at (starts m.tree) _ rest first lawful_start)

      -- init and P only in phase Start
      pub started_is : started_in t (layout_of t) s s.phase ≡ initial u.phase (inits m u && starts_hold m u)
      unfolding started_in initial phase_is
      started_is = go s.phase u.phase shows.phase
        where
          go : (p : Phase) (q : R.Phase) → phase_is p ≡ q → started_in t (layout_of t) s p ≡ initial q (inits m u && starts_hold m u)
          go Start q f = rw (← f) (and_same inits_is starts_is)
          go Running q f = rw (← f)

    pub settled_is : (s s' : State) (u u' : R.State) → Shows m s u → Shows m s' u' → settled_at t (layout_of t) s s' ≡ settled m u u'
    unfolding settled
    settled_is s s' u u' a b =
        by_tests (started_in t (layout_of t) s s.phase) refl (all_hold t (layout_of t) Inv s) refl ∙
        and_same (started_is s u a) (and_same (invs_is s u a) (invs_is s' u' b))
      where
        by_tests : (p : Bool) → started_in t (layout_of t) s s.phase ≡ p → (q : Bool) → all_hold t (layout_of t) Inv s ≡ q → settled_at t (layout_of t) s s' ≡ (p && (q && all_hold t (layout_of t) Inv s'))
        by_tests true f true g = unfold settled_at in rw (f, settled_at, g, settled_at)
        by_tests true f false g = unfold settled_at in rw (f, settled_at, g, settled_at)
        by_tests false f q g = unfold settled_at in rw (f, settled_at)
