-- The places of a move are the labels of its transition.
use mathlib.Core.Path.{◌≡◌, refl, sym, ap, ap₂, ◌∙◌}
use mathlib.Core.Bool.{Bool, true, false}
use mathlib.Core.List.{List, [], ◌∷◌, ◌++◌, map, map-append}
use mathlib.Core.Option
use mathlib.Core.Option.{Option, none, some}
use Prim.Native.Nat.{ℕ, ◌≤◌}
use lib.ListN.{length, take}
use lib.Dec.{eqb}
use Rattle.model.specs.Basic.{count_up}
use Rattle.model.specs.Composition.{Tree, par, syn, ini, leaf, leaves}
use Rattle.model.specs.Model.{Model, Edge}
use Rattle.model.specs.Rules.{Taker}
use Rattle.model.specs.Lawful.{Lawful}
use Rattle.model.specs.Table.{sheet_words}
use Rattle.table_places.specs.Outline.{edge_from, edge_to}
use Rattle.merge_table.proofs.PlacesAre.{action_placed}
use Rattle.merge_table.proofs.EdgesAre.{takers_add}
use Rattle.merge_table.proofs.GatherIs.{Move, Recorded, recorded_placed}
use Rattle.merge_table.proofs.TakersAre.{read_at, taken_by, sources_are, targets_are}
use Rattle.merge_edges.specs.Edge.{updates_at}
use Rattle.theorem_definition4.specs.Table3.{Position, wild, at}
use Rattle.theorem_definition4.proofs.Positions.{place, positions}
use Rattle.theorem_gathered.specs.Gathers.{position_at, Labelled}

-- a location that may be there, as a position
unfoldable position : Option ℕ → Position
position none = wild
position (some l) = at l

-- an automaton's place, by the edge that it takes
place_is : (part : Edge → ℕ) (k : ℕ) (ts : List Taker) → place part k ts ≡ position (Option.map part (taken_by ts k))
unfolding place taken_by position
place_is part k [] = refl
place_is part k (x ∷ ts) = go (eqb k x.automaton) refl (place_is part k ts)
  where
    go : (b : Bool) → eqb k x.automaton ≡ b → place part k ts ≡ position (Option.map part (taken_by ts k))
        → place part k (x ∷ ts) ≡ position (Option.map part (taken_by (x ∷ ts) k))
    go true q ih = rw (q, taken_by)
    go false q ih = rw (q, taken_by) ih

-- the places of all leaves
positions_are : (part : Edge → ℕ) (c : Tree) (ts : List Taker) → positions part c ts ≡ map (λ k. place part k ts) (leaves c)
unfolding positions leaves
positions_are part (par c d) ts =
    ap₂ (λ (vs ws : List Position). vs ++ ws) (positions_are part c ts) (positions_are part d ts) ∙
    sym (map-append (λ k. place part k ts) (leaves c) (leaves d))
positions_are part (syn list c) ts = positions_are part c ts
positions_are part (ini p c) ts = positions_are part c ts
positions_are part (leaf k) ts = refl

same_places : (part : Edge → ℕ) (ts : List Taker) (ks : List ℕ) → map (λ k. place part k ts) ks ≡ map position (map (λ k. Option.map part (taken_by ts k)) ks)
same_places part ts [] = refl
same_places part ts (k ∷ ks) = ap₂ (λ (p : Position) (l : List Position). p ∷ l) (place_is part k ts) (same_places part ts ks)

-- what is read at places, as positions
read_is : (f : ℕ → ℕ) (ps : List ℕ) → map (position_at f) ps ≡ map position (map (read_at f) ps)
unfolding position_at read_at position
read_is f [] = refl
read_is f (p ∷ ps) = ap₂ (λ (q : Position) (l : List Position). q ∷ l) (go (eqb p 0) refl) (read_is f ps)
  where
    go : (b : Bool) → eqb p 0 ≡ b → position_at f p ≡ position (read_at f p)
    go true q = rw (q, position_at, read_at)
    go false q = rw (q, position_at, read_at)

module _ (m : Model) (lawful : Lawful m) (t rest : List ℕ) (e : t ≡ sheet_words m ++ rest) (v : Move) (places : List ℕ) (r : Recorded m t v places) where
  few : length m.automata ≤ 16
  few = lawful.few_automata

  -- the leaves are the automata in order (row 14)
  by_leaves : (part : Edge → ℕ) → positions part m.tree v.takers ≡ map position (map (λ k. Option.map part (taken_by v.takers k)) (count_up 0 (length m.automata)))
  by_leaves part =
      positions_are part m.tree v.takers ∙ ap (map (λ k. place part k v.takers)) lawful.tree.in_order ∙
      same_places part v.takers (count_up 0 (length m.automata))

  pub labelled : Labelled t places (length m.automata) v.action (positions (λ d. d.from) m.tree v.takers) (map (λ y. y.edge.update) v.takers)
      (positions (λ d. d.to) m.tree v.takers)
  labelled = record {
    action = action_placed m v.action t v.takers (recorded_placed m t lawful rest e v places r) r.listed;
    source = read_is (edge_from t) (take (length m.automata) places) ∙ ap (map position) (sources_are m lawful t rest e v places r (length m.automata) few) ∙ sym (by_leaves (λ d. d.from));
    target = read_is (edge_to t) (take (length m.automata) places) ∙ ap (map position) (targets_are m lawful t rest e v places r (length m.automata) few) ∙ sym (by_leaves (λ d. d.to));
    update = ap (updates_at t) r.found ∙ (takers_add m lawful t rest e v.action r.picks r.valid).updates ∙ (rw r.named);
  }
