-- What the merger gathers of the sheet that it is handed is what Definition 4 needs of the sheet itself.
use mathlib.Core.Path.{◌≡◌, refl, sym, ap, subst}
use mathlib.Core.List.{List, ◌∷◌, [], ◌++◌, map, Memᴰ}
use Prim.Native.Nat.{ℕ}
use Rattle.model.specs.Predicate.{Pred}
use Rattle.model.specs.Composition.{Tree, leaf}
use Rattle.model.specs.Model.{Model, Location, Edge, Automaton, automaton}
use Rattle.model.specs.Lawful.{Lawful}
use Rattle.model.specs.Equal.{same_edge}
use Rattle.model.specs.Repeats.{distinct_edges, distinct}
use Rattle.model.specs.Table.{sheet_words}
use Rattle.model.proofs.Once.{once_in, once_out}
use Rattle.model.proofs.EqualLaws.{same_edge_is}
use Rattle.model.proofs.OnceMoves.{automaton_distinct}
use Rattle.model.proofs.Distinct.{lawful_distinct}
use Rattle.merge_table.specs.Linearization.{distinct_table}
use Rattle.merge_table.proofs.DistinctTable.{distinct_table_lem}
use Rattle.theorem_definition4.specs.Table3.{Position, Leads, rule_15, rule_16, rule_20, rule_ini, Syncs, sync_15, sync_16, sync_20, sync_ini, Transition, rule_17, rule_18_left, rule_18_right, rule_19, rule_21, transition_ini}
use Rattle.theorem_gathered.specs.Gathers.{GathersOnce}
use Rattle.theorem_gathered.proofs.GathersAll.{gathers}

-- two sheets whose automata have the same sets and locations, and whose edges are all edges of the other's
module _ (m n : Model) (locations : (k : ℕ) → (automaton m k).locations ≡ (automaton n k).locations) (syncs : (k : ℕ) → (automaton m k).sync ≡ (automaton n k).sync)
    (edges : (k : ℕ) (e : Edge) → Memᴰ e (automaton m k).edges → Memᴰ e (automaton n k).edges) where
  leads_too : {part : Location → Pred} {c : Tree} {fs : List (List Pred)} → Leads m part c fs → Leads n part c fs
  leads_too {part} (rule_15 {k = k}) = subst (λ (ls : List Location). Leads n part (leaf k) (map part ls ∷ [])) (sym (locations k)) rule_15
  leads_too (rule_16 g h) = rule_16 (leads_too g) (leads_too h)
  leads_too (rule_20 h) = rule_20 (leads_too h)
  leads_too (rule_ini h) = rule_ini (leads_too h)

  syncs_too : {c : Tree} {A : List ℕ} → Syncs m c A → Syncs n c A
  syncs_too (sync_15 {k = k}) = subst (λ (A : List ℕ). Syncs n (leaf k) A) (sym (syncs k)) sync_15
  syncs_too (sync_16 g h) = sync_16 (syncs_too g) (syncs_too h)
  syncs_too (sync_20 h) = sync_20 (syncs_too h)
  syncs_too (sync_ini h) = sync_ini (syncs_too h)

  transitions_too : {a : ℕ} {c : Tree} {vs : List Position} {r : List Pred} {vs' : List Position} → Transition m a c vs r vs' → Transition n a c vs r vs'
  transitions_too (rule_17 {k = k} {e = e} i p) = rule_17 (edges k e i) p
  transitions_too (rule_18_left t s w p) = rule_18_left (transitions_too t) (syncs_too s) w p
  transitions_too (rule_18_right t s w p) = rule_18_right (transitions_too t) (syncs_too s) w p
  transitions_too (rule_19 t u s s' p q) = rule_19 (transitions_too t) (transitions_too u) (syncs_too s) (syncs_too s') p q
  transitions_too (rule_21 t) = rule_21 (transitions_too t)
  transitions_too (transition_ini t) = transition_ini (transitions_too t)

module _ (m : Model) where
  same_locations : (k : ℕ) → (automaton (distinct m) k).locations ≡ (automaton m k).locations
  unfolding distinct_edges
  same_locations k = ap (λ (x : Automaton). x.locations) (automaton_distinct m k)

  same_sync : (k : ℕ) → (automaton (distinct m) k).sync ≡ (automaton m k).sync
  unfolding distinct_edges
  same_sync k = ap (λ (x : Automaton). x.sync) (automaton_distinct m k)

  edge_out : (k : ℕ) (e : Edge) → Memᴰ e (automaton (distinct m) k).edges → Memᴰ e (automaton m k).edges
  unfolding distinct_edges
  edge_out k e i = once_out same_edge (automaton m k).edges (subst (λ (x : Automaton). Memᴰ e x.edges) (automaton_distinct m k) i)

  edge_in : (k : ℕ) (e : Edge) → Memᴰ e (automaton m k).edges → Memᴰ e (automaton (distinct m) k).edges
  unfolding distinct_edges
  edge_in k e i = subst (λ (x : Automaton). Memᴰ e x.edges) (sym (automaton_distinct m k)) (once_in same_edge same_edge_is (automaton m k).edges i)

-- the law
pub gathers_once : (m : Model) → Lawful m → (t rest : List ℕ) → t ≡ sheet_words m ++ rest → GathersOnce m t
unfolding distinct
gathers_once m lawful t rest e =
    let s = distinct_table_lem m lawful t rest e in
    record {
      rest = s.0;
      handed = s.1;
      gathered = gathers (distinct m) (lawful_distinct m lawful) (distinct_table t) s.0 s.1;
      same_tree = refl;
      same_functions = λ part fs. (
        leads_too (distinct m) m (same_locations m) (same_sync m) (edge_out m),
        leads_too m (distinct m) (λ k. sym (same_locations m k)) (λ k. sym (same_sync m k)) (edge_in m),
      );
      same_sets = λ A. (
        syncs_too (distinct m) m (same_locations m) (same_sync m) (edge_out m),
        syncs_too m (distinct m) (λ k. sym (same_locations m k)) (λ k. sym (same_sync m k)) (edge_in m),
      );
      same_transitions = λ a vs r vs'. (
        transitions_too (distinct m) m (same_locations m) (same_sync m) (edge_out m),
        transitions_too m (distinct m) (λ k. sym (same_locations m k)) (λ k. sym (same_sync m k)) (edge_in m),
      );
    }
