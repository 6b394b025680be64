-- The survey of the merged predicates says what rows 33 and 34 ask.
use mathlib.Core.Path.{◌≡◌, refl, sym, ap, ap₂, ◌∙◌}
use mathlib.Core.Bool.{Bool, true, false, ◌||◌, or_assoc, or-false}
use mathlib.Core.List.{List, [], ◌∷◌, ◌++◌, map, map-append}
use Prim.Native.Nat.{ℕ, ◌+◌, ◌≤◌, ◌<◌}
use native.Mathlib.Omega.{arith}
use native.Mathlib.Nat.{add-zero}
use lib.ListN.{length}
use lib.Dec.{leb, ltb}
use borrow.Author.Tests.{leb-true, leb-false, lt-ltb}
use Rattle.model.specs.Bounds.{max_nodes, table_words}
use Rattle.model.specs.Basic.{exists, sum}
use Rattle.model.specs.Predicate.{Pred, node_count}
use Rattle.model.specs.Limits.{is_too_deep}
use Rattle.model.specs.Model.{Edge, Model}
use Rattle.model.specs.Rules.{Taker}
use Rattle.model.specs.Lawful.{Lawful}
use Rattle.model.specs.Table.{sheet_words}
use Rattle.model.specs.Linear.{merged_init, merged_inv, merged_edge, edges_with_repeats}
use Rattle.model.specs.Repeats.{count_with_repeats, preds_with_repeats, row32_with_repeats, row33_with_repeats, row34_with_repeats}
use Rattle.model.proofs.Tests.{exists_append}
use Rattle.model.proofs.Count.{repeats_counted}
use Rattle.merge_words.specs.declared.survey.Survey.{Survey}
use Rattle.merge_predicates.specs.Functions.{functions_of}
use Rattle.merge_predicates.specs.Starts.{starts_of}
use Rattle.merge_append.specs.NodeWords.{most, capped}
use Rattle.merge_append.specs.Runs.{run}
use Rattle.merge_takers.specs.Gather.{gathered}
use Rattle.merge_edges.specs.Edge.{takers_nodes, updates_deep}
use Rattle.table_places.specs.Outline.{reach}
use Rattle.table_places.specs.Layout.{layout_of}
use Rattle.model.proofs.Lists.{sum_append}
use Rattle.merge_table.proofs.Standing.{own_of}
use Rattle.merge_words.specs.Survey.{surveyed, with_edge, survey_from, survey_start}
use Rattle.merge_append.proofs.NodeLaws.{capped_is, capped_over}
use Rattle.merge_table.proofs.ClausesAre.{capped_most, capped_add, init_nodes, inv_nodes}
use Rattle.merge_table.proofs.EdgesAre.{edge_nodes}
use Rattle.merge_table.proofs.DeepAre.{init_deep, inv_deep, edge_too_deep}
use Rattle.merge_table.proofs.GatherIs.{Move, all_moves, move_edge, moves_edges, moves_total, Recorded, RecordedFrom, moves_gathered}

-- two capped numbers, added
capped_both : (a b : ℕ) → capped (a + capped b) ≡ capped (a + b)
capped_both a b = let x : a + capped b ≡ capped b + a = omega arith in let y : b + a ≡ a + b = omega arith in ap capped x ∙ capped_add b a ∙ ap capped y

-- a test against less than the greatest word is not changed by the cap
capped_test : (k n : ℕ) → k < most → ltb k (capped n) ≡ ltb k n
capped_test k n h = go (leb n most) refl
  where
    go : (b : Bool) → leb n most ≡ b → ltb k (capped n) ≡ ltb k n
    go true q = ap (ltb k) (sym (capped_is n (leb-true n most q)))
    go false q = let l = leb-false n most q in ap (ltb k) (sym (capped_over n l)) ∙ lt-ltb k most h ∙ sym (lt-ltb k n (omega arith))

abbrev nodes_of : List Pred → ℕ
nodes_of ps = sum (map node_count ps)

-- a survey, and the predicates taken in after it
abbrev over : Survey → List Pred → Survey
over s ps = surveyed (s.deep || exists is_too_deep ps) (capped (s.nodes + nodes_of ps))

over_none : (s : Survey) → s.nodes ≤ most → s ≡ over s []
unfolding exists sum
over_none s h = let z : s.nodes ≡ s.nodes + 0 = omega arith in ap₂ surveyed (sym (or-false s.deep)) (capped_is s.nodes h ∙ ap capped z)

over_more : (s : Survey) (ps qs : List Pred) → over (over s ps) qs ≡ over s (ps ++ qs)
over_more s ps qs =
    let size : s.nodes + nodes_of ps + nodes_of qs ≡ s.nodes + nodes_of (ps ++ qs) = omega (arith, sum_append (map node_count ps) (map node_count qs), ap sum (map-append node_count ps qs)) in
    ap₂ surveyed (or_assoc s.deep (exists is_too_deep ps) (exists is_too_deep qs) ∙ ap (λ b. s.deep || b) (sym (exists_append is_too_deep ps qs)))
    (capped_add (s.nodes + nodes_of ps) (nodes_of qs) ∙ ap capped size)

abbrev updates_of : List Edge → List Pred
updates_of es = map (λ d. d.update) es

-- a survey of the merged init and inv alone
pub record Begun (m : Model) (s : Survey) : Type 0 where
  pub deep : s.deep ≡ (is_too_deep (merged_init m) || is_too_deep (merged_inv m))
  pub nodes : s.nodes ≡ capped (node_count (merged_init m) + node_count (merged_inv m))

module _ (m : Model) (lawful : Lawful m) (t rest : List ℕ) (e : t ≡ sheet_words m ++ rest) where
  pub start_begun : Begun m (survey_start t (functions_of t (layout_of t) false) (starts_of t (layout_of t)) (functions_of t (layout_of t) true))
  unfolding survey_start
  start_begun =
      let a = node_count (merged_init m) in
      let b = node_count (merged_inv m) in
      record {
        deep = ap₂ (λ (x y : Bool). x || y) (init_deep m lawful t rest e) (inv_deep m lawful t rest e);
        nodes = ap₂ (λ (x y : ℕ). capped (x + y)) (init_nodes m lawful t rest e) (inv_nodes m lawful t rest e) ∙ capped_add a (capped b) ∙ capped_both a b;
      }

  -- one move
  with_move : (v : Move) (places : List ℕ) → Recorded m t v places → (s : Survey) → with_edge t places s ≡ over s ((move_edge m v).update ∷ [])
  unfolding with_edge exists sum
  with_move v places r s =
      let update : List Taker → Pred = λ ts. (merged_edge m v.action ts).update in
      let p = update v.takers in
      let deep : updates_deep t places ≡ is_too_deep p =
      ap (updates_deep t) r.found ∙ edge_too_deep m lawful t rest e v.action r.picks r.valid ∙ ap (λ ts. is_too_deep (update ts)) r.named in
      let nodes : takers_nodes t 1 places ≡ capped (node_count p) =
      ap (takers_nodes t 1) r.found ∙ edge_nodes m lawful t rest e v.action r.picks r.valid ∙ ap (λ ts. capped (node_count (update ts))) r.named in
      ap₂ surveyed (ap (λ b. s.deep || b) (deep ∙ sym (or-false (is_too_deep p))))
      (ap (λ n. capped (s.nodes + n)) nodes ∙ capped_both s.nodes (node_count p) ∙ ap (λ n. capped (s.nodes + n)) (sym (add-zero (node_count p))))

  survey_from_lem : (list : List ℕ) (vs : List Move) (at : ℕ) (s : Survey) → RecordedFrom m t list at vs → s.nodes ≤ most
      → survey_from t list at (length vs) s ≡ over s (updates_of (map (move_edge m) vs))
  unfolding survey_from RecordedFrom
  survey_from_lem list [] at s r l = over_none s l
  survey_from_lem list (v ∷ vs) at s r l =
      let p = (move_edge m v).update in
      let q = over s (p ∷ []) in
      ap (survey_from t list (reach list at 16) (length vs)) (with_move v (run list at 16) r.0 s) ∙
      survey_from_lem list vs (reach list at 16) q r.1 (capped_most (s.nodes + nodes_of (p ∷ []))) ∙ over_more s (p ∷ []) (updates_of (map (move_edge m) vs))

  module _ (kept : row32_with_repeats m ≡ false) (old : List ℕ) (long : length old ≡ table_words) where
    abbrev list : List ℕ
    list = gathered t (layout_of t) (own_of t) old

    -- all edges, from a survey on
    survey_edges : (s : Survey) → s.nodes ≤ most → survey_from t list 0 (count_with_repeats m) s ≡ over s (updates_of (edges_with_repeats m))
    survey_edges s l =
        ap (λ n. survey_from t list 0 n s) (sym (moves_total m ∙ repeats_counted m)) ∙ survey_from_lem list (all_moves m) 0 s (moves_gathered m lawful t rest e kept old long) l ∙
        ap (λ (es : List Edge). over s (updates_of es)) (moves_edges m)

    -- and from that of the merged init and inv on
    module _ (s : Survey) (begun : Begun m s) where
      abbrev whole : Survey
      whole = survey_from t list 0 (count_with_repeats m) s

      whole_survey : whole ≡ over s (updates_of (edges_with_repeats m))
      whole_survey = survey_edges s (rw begun.nodes (capped_most (node_count (merged_init m) + node_count (merged_inv m))))

      -- row 33
      pub survey_deep : (survey_from t (gathered t (layout_of t) (own_of t) old) 0 (count_with_repeats m) s).deep ≡ row33_with_repeats m
      unfolding row33_with_repeats preds_with_repeats exists
      survey_deep =
          let others = exists is_too_deep (updates_of (edges_with_repeats m)) in
          ap (λ (y : Survey). y.deep) whole_survey ∙ ap (λ b. b || others) begun.deep ∙ or_assoc (is_too_deep (merged_init m)) (is_too_deep (merged_inv m)) others

      survey_nodes : whole.nodes ≡ capped (sum (map node_count (preds_with_repeats m)))
      unfolding preds_with_repeats sum
      survey_nodes =
          let a = node_count (merged_init m) in
          let b = node_count (merged_inv m) in
          let others = nodes_of (updates_of (edges_with_repeats m)) in
          let size : a + b + others ≡ a + (b + others) = omega arith in
          ap (λ (y : Survey). y.nodes) whole_survey ∙ ap (λ n. capped (n + others)) begun.nodes ∙ capped_add (a + b) others ∙ ap capped size

      -- row 34
      pub survey_row34 : ltb max_nodes (survey_from t (gathered t (layout_of t) (own_of t) old) 0 (count_with_repeats m) s).nodes ≡ row34_with_repeats m
      unfolding row34_with_repeats
      survey_row34 = ap (ltb max_nodes) survey_nodes ∙ capped_test max_nodes (sum (map node_count (preds_with_repeats m))) (omega arith)
