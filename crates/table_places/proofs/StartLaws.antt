-- Each way out of the code of src/starts.rt; and behind a tree's nodes the start conditions stand at their places.
use mathlib.Core.Path.{◌≡◌, refl, sym, ap, ◌∙◌}
use mathlib.Core.List.{List, [], ◌∷◌, ◌++◌, append_assoc, flat_map}
use Prim.Native.Nat.{ℕ, zero, suc, ◌≤◌, ◌<◌}
use native.Mathlib.Omega.{arith}
use lib.ListN.{length, get_or, drop, drop_of_length-le}
use lib.Seq.{drop-drop, drop_at, drop-cons}
use Rattle.model.specs.Bounds.{max_tree_nodes}
use Rattle.model.specs.Predicate.{Pred}
use Rattle.model.specs.Composition.{Tree, starts, tree_size}
use Rattle.model.specs.Lines.{compose_line}
use Rattle.model.specs.Table.{pred_words, start_words, line_words}
use Rattle.model.proofs.Sizes.{starts_few}
use Rattle.table_tree.specs.Nodes.{tree_words}
use Rattle.table_tree.proofs.Standing.{skip_of}
use Rattle.table_places.specs.AtMost.{at_most}
use Rattle.table_places.specs.Outline.{nodes_place, after_predicate}
use Rattle.table_places.specs.Starts.{starts_at, start_count, first_start, start_at}
use Rattle.table_places.proofs.CodeLaws.{at_most_all, one_on}
use Rattle.table_places.proofs.OutlineLaws.{reach_inside, reached, read, after_predicate_lem}
use Rattle.table_places.proofs.Standing.{predicate_inside, tree_nodes, tree_begins}

-- `start_at`
module _ (t : List ℕ) (next left whole : ℕ) (inv : start_at t next left ≡ whole) where
  pub start_done : left ≡ 0 → next ≡ whole
  unfolding start_at
  start_done z = rw z at inv

  pub start_step : (rest : ℕ) → left ≡ suc rest → (b : ℕ) → b ≡ after_predicate t next → start_at t b rest ≡ whole
  unfolding start_at
  start_step rest y b e = one_on (start_at t) (after_predicate t) (λ at k. refl) next left whole inv rest y b e

pub ruleset start_laws = (start_done, start_step)

-- no place is past the end
module _ (t : List ℕ) where
  pub first_start_inside : (at : ℕ) → first_start t at ≤ length t
  unfolding first_start
  first_start_inside at = reach_inside t at 1

  pub start_inside : (at k : ℕ) → at ≤ length t → start_at t at k ≤ length t
  unfolding start_at
  start_inside at zero h = h
  start_inside at (suc k) h = start_inside (after_predicate t at) k (predicate_inside t at)

-- some predicates, one after the other: from number k on, number k, and what is after all of them
module _ (t rest : List ℕ) (ps : List Pred) (at : ℕ) (e : drop at t ≡ flat_map pred_words ps ++ rest) where
  pub start_at_lem : (k : ℕ) → k ≤ length ps → drop (start_at t at k) t ≡ flat_map pred_words (drop k ps) ++ rest
  unfolding start_at flat_map
  start_at_lem k h = go ps at k h e
    where
      go : (qs : List Pred) (a j : ℕ) → j ≤ length qs → drop a t ≡ flat_map pred_words qs ++ rest → drop (start_at t a j) t ≡ flat_map pred_words (drop j qs) ++ rest
      go qs a zero l f = f
      go [] a (suc j) l f = absurd (omega arith)
      go (q ∷ qs) a (suc j) l f =
          let others = flat_map pred_words qs in
          go qs (after_predicate t a) j (omega arith) (after_predicate_lem t a q (others ++ rest) (f ∙ append_assoc (pred_words q) others rest))

  pub start_stands : (k : ℕ) (d : Pred) → k < length ps → drop (start_at t at k) t ≡ pred_words (get_or ps k d) ++ (flat_map pred_words (drop (suc k) ps) ++ rest)
  unfolding flat_map
  start_stands k d h =
      let l : k ≤ length ps = omega arith in
      start_at_lem k l ∙ ap (λ (qs : List Pred). flat_map pred_words qs ++ rest) (drop-cons ps k d h) ∙
      append_assoc (pred_words (get_or ps k d)) (flat_map pred_words (drop (suc k) ps)) rest

  pub after_starts : drop (start_at t at (length ps)) t ≡ rest
  unfolding flat_map
  after_starts =
      let whole : length ps ≤ length ps = omega arith in
      start_at_lem (length ps) whole ∙ ap (λ (qs : List Pred). flat_map pred_words qs ++ rest) (drop_of_length-le ps whole)

-- behind the nodes of the tree that stands at a place
module _ (t rest : List ℕ) (c : Tree) (at : ℕ) (e : drop at t ≡ line_words (compose_line c) ++ rest) (few : tree_size c ≤ max_tree_nodes) where
  pub starts_stand : drop (starts_at t at) t ≡ start_words c ++ rest
  unfolding starts_at
  starts_stand =
      let root = nodes_place t at in
      let n = length (tree_words c) in
      ap (λ (i : ℕ). drop i t) (skip_of t c root few (tree_begins t rest c at e)) ∙ sym (drop-drop n root t) ∙
      ap (drop n) (tree_nodes t rest c at e) ∙ drop_at (tree_words c) (start_words c ++ rest) n refl

  pub starts_count : get_or t (starts_at t at) 0 ≡ length (starts c)
  unfolding start_words
  starts_count = read t (starts_at t at) (length (starts c)) (flat_map pred_words (starts c) ++ rest) starts_stand

  pub start_count_lem : start_count t (starts_at t at) ≡ length (starts c)
  unfolding start_count
  start_count_lem =
      let l : length (starts c) ≤ max_tree_nodes = omega (arith, starts_few c) in
      ap (at_most max_tree_nodes) starts_count ∙ sym (at_most_all max_tree_nodes (length (starts c)) l)

  abbrev pub first_place : ℕ
  first_place = first_start t (starts_at t at)

  pub first_start_lem : drop first_place t ≡ flat_map pred_words (starts c) ++ rest
  unfolding first_start start_words
  first_start_lem = reached t (starts_at t at) 1 (length (starts c) ∷ []) (flat_map pred_words (starts c) ++ rest) starts_stand refl

  -- P number k, and after the last P
  pub start_of : (k : ℕ) (d : Pred) → k < length (starts c)
      → drop (start_at t first_place k) t ≡ pred_words (get_or (starts c) k d) ++ (flat_map pred_words (drop (suc k) (starts c)) ++ rest)
  start_of = start_stands t rest (starts c) first_place first_start_lem

  pub starts_end : drop (start_at t first_place (start_count t (starts_at t at))) t ≡ rest
  starts_end = ap (λ (n : ℕ). drop (start_at t first_place n) t) start_count_lem ∙ after_starts t rest (starts c) first_place first_start_lem
