-- Where no row refuses the merged text, the merged sheet's words are those of the merged model, and the table is its table.
use mathlib.Core.Path.{◌≡◌, refl, ap, ◌∙◌, subst}
use mathlib.Core.Bool.{false}
use mathlib.Core.List.Memᴰ
use mathlib.Core.List.{List, [], ◌∷◌, ◌++◌, map, flat_map, Memᴰ}
use mathlib.Core.Option.{none}
use Prim.Native.Nat.{ℕ, zero, suc, ◌+◌, ◌≤◌, ◌<◌}
use native.Mathlib.Omega.{arith}
use native.Mathlib.Decide.{dec_lt}
use native.Mathlib.Nat.{zero-add}
use lib.ListN.{length, drop, replicate, length-replicate}
use borrow.Author.Tests.{ltb-false}
use Rattle.model.specs.Basic.{sum, count_up}
use Rattle.model.specs.Bounds.{max_nodes, table_words}
use Rattle.model.specs.Predicate.{Pred, node_count}
use Rattle.model.specs.Model.{Edge, Model}
use Rattle.model.specs.Rules.{Taker}
use Rattle.model.specs.Lawful.{Lawful}
use Rattle.model.specs.Table.{sheet_words, table_of}
use Rattle.model.specs.Moves.{moves}
use Rattle.model.specs.Linear.{merged_init, merged_inv, merged_edge, edges_with_repeats, row31}
use Rattle.model.specs.Repeats.{linear_with_repeats, preds_with_repeats, row32_with_repeats, row33_with_repeats, row34_with_repeats, fault_with_repeats}
use Rattle.model.proofs.Decode.{unbroken}
use Rattle.model.proofs.LinearLimits.{repeats_lawful}
use Rattle.model.proofs.Sizes.{words_fit}
use Rattle.merge_append.specs.Append.{Appended}
use Rattle.merge_append.specs.NodeWords.{most}
use Rattle.table_places.specs.Layout.{layout_of}
use Rattle.merge_words.specs.MergedSheet.{merged_sheet}
use Rattle.merge_words.specs.Linearize.{gathered_in, takers_for}
use Rattle.merge_append.proofs.AppendLaws.{appended_is}
use Rattle.merge_table.proofs.EdgesAre.{drop_zeros}
use Rattle.merge_table.proofs.SheetIs.{sheet_words_lem}
use Rattle.merge_table.proofs.WordsFit.{fits}

-- rows 31 to 34, where none of them refuses
pub record Kept (m : Model) : Type 0 where
  pub variables : row31 m ≡ false
  pub edges : row32_with_repeats m ≡ false
  pub depths : row33_with_repeats m ≡ false
  pub nodes : row34_with_repeats m ≡ false

pub rows_kept : (m : Model) → fault_with_repeats m ≡ none → Kept m
unfolding fault_with_repeats
rows_kept m h =
    let r31 = unbroken 31 (row31 m) _ h in
    let r32 = unbroken 32 (row32_with_repeats m) _ r31.1 in
    let r33 = unbroken 33 (row33_with_repeats m) _ r32.1 in
    let r34 = unbroken 34 (row34_with_repeats m) _ r33.1 in
    record { variables = r31.0; edges = r32.0; depths = r33.0; nodes = r34.0 }

-- one of some predicates has no more nodes than all
one_of_all : (ps : List Pred) (p : Pred) → Memᴰ p ps → node_count p ≤ sum (map node_count ps)
unfolding sum
one_of_all [] p i = absurd (Memᴰ.not-nil i)
one_of_all (q ∷ ps) p (Memᴰ.head e) = let c : node_count p ≡ node_count q = ap node_count e in omega arith
one_of_all (q ∷ ps) p (Memᴰ.tail i) = let l = one_of_all ps p i in omega arith

-- a move's edge is one of the merged edges
module _ (m : Model) (a : ℕ) (ts : List Taker) (i : Memᴰ ts (moves m a m.tree)) where
  edge_from : (n b : ℕ) → b ≤ a → a < b + n → Memᴰ (merged_edge m a ts) (flat_map (λ c. map (merged_edge m c) (moves m c m.tree)) (count_up b n))
  unfolding flat_map count_up
  edge_from zero b l h = absurd (omega arith)
  edge_from (suc n) b l h = go (dec_lt b a) (λ k. edge_from n (suc b) k (omega arith))
    where
      others : List Edge
      others = flat_map (λ c. map (merged_edge m c) (moves m c m.tree)) (count_up (suc b) n)

      go : Dec (b < a) → (suc b ≤ a → Memᴰ (merged_edge m a ts) others) → Memᴰ (merged_edge m a ts) (map (merged_edge m b) (moves m b m.tree) ++ others)
      go (yes k) ih = Memᴰ.append_right (map (merged_edge m b) (moves m b m.tree)) (ih k)
      go (no k) ih =
          let z : a ≡ b = omega arith in
          subst (λ c. Memᴰ (merged_edge m a ts) (map (merged_edge m c) (moves m c m.tree) ++ others)) z (Memᴰ.append_left others (Memᴰ.map (merged_edge m a) i))

  edge_in : a ≤ m.actions → Memᴰ (merged_edge m a ts) (edges_with_repeats m)
  unfolding edges_with_repeats
  edge_in l = edge_from (suc m.actions) 0 (omega arith) (omega arith)

-- so where row 34 does not refuse, each merged predicate's count of nodes is a word
module _ (m : Model) (rows : Kept m) where
  few_nodes : (p : Pred) → Memᴰ p (preds_with_repeats m) → node_count p ≤ most
  unfolding row34_with_repeats
  few_nodes p i =
      let all = ltb-false max_nodes (sum (map node_count (preds_with_repeats m))) rows.nodes in
      let one = one_of_all (preds_with_repeats m) p i in
      omega arith

  pub init_small : node_count (merged_init m) ≤ most
  unfolding preds_with_repeats
  init_small = few_nodes (merged_init m) (Memᴰ.head refl)

  pub inv_small : node_count (merged_inv m) ≤ most
  unfolding preds_with_repeats
  inv_small = few_nodes (merged_inv m) (Memᴰ.tail (Memᴰ.head refl))

  pub edge_small : (a : ℕ) → a ≤ m.actions → (ts : List Taker) → Memᴰ ts (moves m a m.tree) → node_count (merged_edge m a ts).update ≤ most
  unfolding preds_with_repeats
  edge_small a l ts i = few_nodes (merged_edge m a ts).update (Memᴰ.tail (Memᴰ.tail (Memᴰ.map (λ (d : Edge). d.update) (edge_in m a ts i l))))

-- a sheet's words, appended to an empty table, are its table
pub table_appended : (k : Model) → Lawful k → (new : List ℕ) (r : ℕ) → Appended (sheet_words k) 0 (replicate table_words 0) new r → new ≡ table_of k
unfolding table_of
table_appended k law new r there =
    let ws = sheet_words k in
    let room = words_fit k law in
    let is = appended_is ws 0 (replicate table_words 0) new r there (fits k law) (length-replicate {A = ℕ} table_words 0) (omega arith) in
    is ∙ ap (λ (l : List ℕ). ws ++ l) (ap (λ n. drop n (replicate table_words 0)) (zero-add (length ws)) ∙ drop_zeros (length ws) table_words room)

module _ (m : Model) (lawful : Lawful m) (t rest : List ℕ) (e : t ≡ sheet_words m ++ rest) (unrefused : fault_with_repeats m ≡ none) where
  -- the words
  pub whole_words : merged_sheet t (gathered_in t (layout_of t)) (takers_for t (layout_of t)) ≡ sheet_words (linear_with_repeats m)
  whole_words =
      let rows = rows_kept m unrefused in
      sheet_words_lem m lawful t rest e rows.edges (init_small m rows) (inv_small m rows) (edge_small m rows)

  -- the table
  pub whole_table : (new : List ℕ) (r : ℕ) → Appended (merged_sheet t (gathered_in t (layout_of t)) (takers_for t (layout_of t))) 0 (replicate table_words 0) new r
      → new ≡ table_of (linear_with_repeats m)
  whole_table new r a =
      table_appended (linear_with_repeats m) (repeats_lawful m lawful unrefused) new r
      (subst (λ (l : List ℕ). Appended l 0 (replicate table_words 0) new r) whole_words a)
