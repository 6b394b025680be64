-- The words of all merged edges are those of the merged model's edges.
use mathlib.Core.Path.{◌≡◌, refl, sym, ap, ap₂, ◌∙◌}
use mathlib.Core.Bool.{false}
use mathlib.Core.List.{List, [], ◌∷◌, ◌++◌, map, flat_map, Memᴰ}
use Prim.Native.Nat.{ℕ, ◌≤◌}
use lib.ListN.{length}
use Rattle.model.specs.Bounds.{table_words}
use Rattle.model.specs.Predicate.{node_count}
use Rattle.model.specs.Model.{Model}
use Rattle.model.specs.Rules.{Taker}
use Rattle.model.specs.Lawful.{Lawful}
use Rattle.model.specs.Lines.{edge_line}
use Rattle.model.specs.Table.{line_words, sheet_words}
use Rattle.model.specs.Moves.{moves}
use Rattle.model.specs.Linear.{merged_edge, edges_with_repeats}
use Rattle.model.specs.Repeats.{row32_with_repeats}
use Rattle.table_places.specs.declared.layout.Layout.{Layout}
use Rattle.table_places.specs.Outline.{reach}
use Rattle.table_places.specs.Layout.{layout_of}
use Rattle.table_places.proofs.OutlineLaws.{edge_words}
use Rattle.merge_append.specs.NodeWords.{most}
use Rattle.merge_append.specs.Runs.{run}
use Rattle.merge_takers.specs.Gather.{gathered}
use Rattle.merge_edges.specs.Edge.{edge_by}
use Rattle.merge_edges.specs.Edges.{action_at, edge_of, edges_from}
use Rattle.merge_table.proofs.Standing.{own_of}
use Rattle.merge_table.proofs.PlacesAre.{action_placed}
use Rattle.merge_table.proofs.EdgesAre.{takers_from, edge_words_lem}
use Rattle.merge_table.proofs.GatherIs.{Move, all_moves, move_edge, moves_edges, moves_total, Recorded, RecordedFrom, recorded_placed, moves_gathered}

module _ (m : Model) (lawful : Lawful m) (t rest : List ℕ) (e : t ≡ sheet_words m ++ rest) where
  abbrev lay : Layout
  lay = layout_of t

  module _ (small : (a : ℕ) → a ≤ m.actions → (ts : List Taker) → Memᴰ ts (moves m a m.tree) → node_count (merged_edge m a ts).update ≤ most) where
    -- a move's edge
    one_edge : (v : Move) (places : List ℕ) → Recorded m t v places → edge_of t lay.variables places ≡ line_words (edge_line (move_edge m v))
    unfolding edge_of
    one_edge v places r =
        let a = v.action in
        let action : action_at t places ≡ a = action_placed m a t v.takers (recorded_placed m t lawful rest e v places r) r.listed in
        let few : node_count (merged_edge m a (takers_from a r.picks 0 m.automata)).update ≤ most = rw r.named (small a r.within v.takers r.listed) in
        ap₂ (edge_by t lay.variables) action r.found ∙ edge_words_lem m lawful t rest e a r.picks r.valid few ∙
        ap (λ (ts : List Taker). line_words (edge_line (merged_edge m a ts))) r.named

    edges_from_lem : (list : List ℕ) (vs : List Move) (at : ℕ) → RecordedFrom m t list at vs → edges_from t lay.variables list at (length vs) ≡ edge_words (map (move_edge m) vs)
    unfolding edges_from RecordedFrom flat_map
    edges_from_lem list [] at r = refl
    edges_from_lem list (v ∷ vs) at r = ap₂ (λ (k l : List ℕ). k ++ l) (one_edge v (run list at 16) r.0) (edges_from_lem list vs (reach list at 16) r.1)

    -- the law: all edges, in their order
    pub edges_words : row32_with_repeats m ≡ false → (old : List ℕ) → length old ≡ table_words
        → edges_from t (layout_of t).variables (gathered t (layout_of t) (own_of t) old) 0 (length (edges_with_repeats m)) ≡ edge_words (edges_with_repeats m)
    edges_words kept old long =
        let list = gathered t lay (own_of t) old in
        ap (edges_from t lay.variables list 0) (sym (moves_total m)) ∙ edges_from_lem list (all_moves m) 0 (moves_gathered m lawful t rest e kept old long) ∙ ap edge_words (moves_edges m)
