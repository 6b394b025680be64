-- The merged sheet's words are those of the merged model.
use mathlib.Core.Path.{◌≡◌, refl, sym, ap, ap₂, ◌∙◌}
use mathlib.Core.Bool.{false}
use mathlib.Core.List.{List, [], ◌∷◌, ◌++◌, append_assoc, append-nil, flat_map, Memᴰ}
use Prim.Native.Nat.{ℕ, ◌≤◌}
use lib.ListN.{length, replicate, length-replicate}
use Rattle.model.specs.Basic.{keep, count_up}
use Rattle.model.specs.Bounds.{table_words}
use Rattle.model.specs.Predicate.{node_count}
use Rattle.model.specs.Composition.{leaf, nodes, starts, tree_size}
use Rattle.model.specs.Model.{Model, Automaton, in_set}
use Rattle.model.specs.Rules.{Taker}
use Rattle.model.specs.Lawful.{Lawful}
use Rattle.model.specs.Lines.{Entry, format_line, actions_line, variables_line, automata_line, compose_line, location_lines, automaton_lines, variable_lines, lines}
use Rattle.model.specs.Table.{set_words, pred_words, node_words, start_words, line_words, sheet_words}
use Rattle.model.specs.Moves.{moves}
use Rattle.model.specs.Linear.{merged_init, merged_inv, merged_edge, edges_with_repeats}
use Rattle.model.specs.Repeats.{linear_with_repeats, row32_with_repeats}
use Rattle.table_places.proofs.OutlineLaws.{words_of, edge_words, words_append}
use Rattle.merge_append.specs.NodeWords.{most}
use Rattle.merge_edges.specs.Edges.{edges_from}
use Rattle.table_places.specs.Layout.{layout_of}
use Rattle.merge_words.specs.declared.gathering.Gathered.{Gathered}
use Rattle.merge_words.specs.MergedSheet.{location_words, automaton_words, merged_sheet}
use Rattle.merge_words.specs.Linearize.{gathered_in, takers_for}
use Rattle.model.proofs.Count.{repeats_counted}
use Rattle.merge_table.proofs.CountIs.{count_exact}
use Rattle.merge_table.proofs.HeadIs.{head_words_lem}
use Rattle.merge_table.proofs.ClausesAre.{init_words, inv_words}
use Rattle.merge_table.proofs.SyncIs.{sync_words}
use Rattle.merge_table.proofs.AllEdgesAre.{edges_words}

module _ (m : Model) (lawful : Lawful m) (t rest : List ℕ) (e : t ≡ sheet_words m ++ rest)
    (kept : row32_with_repeats m ≡ false)
    (init_small : node_count (merged_init m) ≤ most) (inv_small : node_count (merged_inv m) ≤ most)
    (small : (a : ℕ) → a ≤ m.actions → (ts : List Taker) → Memᴰ ts (moves m a m.tree) → node_count (merged_edge m a ts).update ≤ most) where
  abbrev g : Gathered
  g = gathered_in t (layout_of t)

  abbrev list : List ℕ
  list = takers_for t (layout_of t)

  -- so many edges are gathered
  count : g.edges ≡ length (edges_with_repeats m)
  unfolding gathered_in
  count = count_exact m lawful t rest e kept ∙ sym (repeats_counted m)

  edges_gathered : edges_from t (layout_of t).variables list 0 (length (edges_with_repeats m)) ≡ edge_words (edges_with_repeats m)
  unfolding takers_for
  edges_gathered = edges_words m lawful t rest e small kept (replicate table_words 0) (length-replicate {A = ℕ} table_words 0)

  abbrev whole : Automaton
  whole = record {
    sync = keep (λ a. in_set m a m.tree) (count_up 1 m.actions);
    locations = record { init = merged_init m; inv = merged_inv m } ∷ [];
    edges = edges_with_repeats m;
  }

  abbrev front : List Entry
  front = format_line (linear_with_repeats m).format ∷ actions_line (linear_with_repeats m).actions ∷ variables_line (length (linear_with_repeats m).variables) ∷ (variable_lines (linear_with_repeats m).variables (linear_with_repeats m).owners ++ automata_line 1 ∷ [])

  -- the lines of the merged model, in three parts
  in_parts : lines (linear_with_repeats m) ≡ front ++ (automaton_lines whole ++ compose_line (leaf 0) ∷ [])
  unfolding lines linear_with_repeats flat_map
  in_parts =
      ap (λ (l : List Entry). format_line (linear_with_repeats m).format ∷ actions_line (linear_with_repeats m).actions ∷ variables_line (length (linear_with_repeats m).variables) ∷ l)
      (ap (λ (l : List Entry). variable_lines (linear_with_repeats m).variables (linear_with_repeats m).owners ++ (automata_line 1 ∷ (l ++ compose_line (leaf 0) ∷ []))) (append-nil (automaton_lines whole)) ∙
      sym (append_assoc (variable_lines (linear_with_repeats m).variables (linear_with_repeats m).owners) (automata_line 1 ∷ []) (automaton_lines whole ++ compose_line (leaf 0) ∷ [])))

  automaton_words_lem : automaton_words t g list ≡ words_of (automaton_lines whole)
  unfolding automaton_words location_words gathered_in automaton_lines location_lines flat_map line_words
  automaton_words_lem =
      let set = sync_words m lawful t rest e in
      rw (count, init_words m lawful t rest e init_small, inv_words m lawful t rest e inv_small, edges_gathered)
      (ap (λ (l : List ℕ). l ++ (1 ∷ ((pred_words (merged_init m) ++ pred_words (merged_inv m)) ++ (length (edges_with_repeats m) ∷ edge_words (edges_with_repeats m))))) set ∙
      ap (λ (l : List ℕ). set_words whole.sync ++ (1 ∷ l)) (append_assoc (pred_words (merged_init m)) (pred_words (merged_inv m)) (length (edges_with_repeats m) ∷ edge_words (edges_with_repeats m))))

  tail_words : 1 ∷ 2 ∷ 0 ∷ [] ≡ words_of (compose_line (leaf 0) ∷ [])
  unfolding flat_map line_words tree_size nodes node_words start_words starts
  tail_words = refl

  -- the law of the whole
  pub sheet_words_lem : merged_sheet t (gathered_in t (layout_of t)) (takers_for t (layout_of t)) ≡ sheet_words (linear_with_repeats m)
  unfolding merged_sheet gathered_in sheet_words
  sheet_words_lem =
      sym (ap words_of in_parts ∙ words_append front (automaton_lines whole ++ compose_line (leaf 0) ∷ []) ∙
      ap₂ (λ (k l : List ℕ). k ++ l) (sym (head_words_lem m lawful t rest e))
      (words_append (automaton_lines whole) (compose_line (leaf 0) ∷ []) ∙ ap₂ (λ (k l : List ℕ). k ++ l) (sym automaton_words_lem) (sym tail_words)))
