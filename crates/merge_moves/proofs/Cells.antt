-- On a lawful tree's words, every node has its cell filled.
use mathlib.Core.Path.{◌≡◌, sym, ap, ap₂, ◌∙◌}
use mathlib.Core.Bool.{true}
use mathlib.Core.List.{List, [], ◌++◌}
use Prim.Native.Nat.{ℕ, suc, ◌+◌, ◌-◌, ◌*◌, ◌≤◌, ◌<◌}
use native.Mathlib.Omega.{arith}
use lib.ListN.{length, get_or, set, drop, length-set}
use lib.Seq.{get_or-set_same, get_or-set_other}
use borrow.Author.Tests.{lt-ltb}
use Rattle.model.specs.Bounds.{max_actions}
use Rattle.model.specs.Composition.{Tree, par, syn, ini, leaf, tree_size}
use Rattle.model.specs.Model.{Model, in_set}
use Rattle.model.specs.Moves.{move_count}
use Rattle.model.specs.Limits.{rises, tree_rises}
use Rattle.model.specs.Table.{low_bits, high_bits}
use Rattle.model.proofs.Tests.{and_left, and_right}
use Rattle.model.proofs.Numbered.{Leaves}
use Rattle.table_tree.specs.declared.nodes.Found.TheVariants.{Par, Syn, Leaf}
use Rattle.table_tree.specs.Nodes.{tree_words}
use Rattle.table_tree.proofs.Standing.{SynStands, par_stands, syn_stands, ini_stands, leaf_stands, size_par, size_syn, size_ini, size_leaf, length_par, length_syn, length_ini, words_leaf}
use Rattle.merge_moves.specs.declared.planning.Planned.{Planned}
use Rattle.merge_moves.specs.Capping.{capped, cell_of}
use Rattle.merge_moves.specs.Plan.{plan_at, stored, fill_by, fill_at}
use Rattle.merge_moves.proofs.PlanLaws.{fill_by_lem}
use Rattle.merge_moves.proofs.Capped.{cell_again}
use Rattle.merge_moves.proofs.Plans.{Told, plan_of, planned_is}

-- a node has at most three words
pub few_words : (c : Tree) → length (tree_words c) ≤ 3 * tree_size c
few_words (par c d) = omega (arith, few_words c, few_words d, length_par c d, size_par c d)
few_words (syn list c) = omega (arith, few_words c, length_syn list c, size_syn list c)
few_words (ini p c) = omega (arith, few_words c, length_ini p c, size_ini p c)
few_words (leaf k) = omega (arith, ap length (words_leaf k), size_leaf k)

module _ (m : Model) (action root : ℕ) where
  -- the cell of the subtree at a place says its membership and its count
  abbrev pub Cell : List ℕ → Tree → ℕ → Type 0
  Cell cells c at = get_or cells (at - root) 0 ≡ cell_of (in_set m action c) (move_count m action c)

  -- and so do those of all subtrees in it
  unfoldable pub Filled : List ℕ → Tree → ℕ → Type 0
  Filled cells (par c d) at = Cell cells (par c d) at × Filled cells c (at + 1) × Filled cells d (at + 1 + length (tree_words c))
  Filled cells (syn list c) at = Cell cells (syn list c) at × Filled cells c (at + 3)
  Filled cells (ini p c) at = Cell cells (ini p c) at × Filled cells c (at + 3)
  Filled cells (leaf k) at = Cell cells (leaf k) at

  pub filled_cell : (cells : List ℕ) (c : Tree) (at : ℕ) → Filled cells c at → Cell cells c at
  unfolding Filled
  filled_cell cells (par c d) at f = f.0
  filled_cell cells (syn list c) at f = f.0
  filled_cell cells (ini p c) at f = f.0
  filled_cell cells (leaf k) at f = f

  -- cells that agree at a subtree's places say the same of it
  same_filled : (cells others : List ℕ) (c : Tree) (at : ℕ) → root ≤ at → ((i : ℕ) → at - root ≤ i → i < at - root + length (tree_words c) → get_or others i 0 ≡ get_or cells i 0) → Filled cells c at → Filled others c at
  unfolding Filled
  same_filled cells others (par c d) at l h f =
      let z = length_par c d in (
        h (at - root) (omega arith) (omega arith) ∙ f.0,
        same_filled cells others c (at + 1) (omega arith) (λ i p q. h i (omega arith) (omega arith)) f.1,
        same_filled cells others d (at + 1 + length (tree_words c)) (omega arith) (λ i p q. h i (omega arith) (omega arith)) f.2,
      )
  same_filled cells others (syn list c) at l h f =
      let z = length_syn list c in (
        h (at - root) (omega arith) (omega arith) ∙ f.0,
        same_filled cells others c (at + 3) (omega arith) (λ i p q. h i (omega arith) (omega arith)) f.1,
      )
  same_filled cells others (ini p c) at l h f =
      let z = length_ini p c in (
        h (at - root) (omega arith) (omega arith) ∙ f.0,
        same_filled cells others c (at + 3) (omega arith) (λ i p q. h i (omega arith) (omega arith)) f.1,
      )
  same_filled cells others (leaf k) at l h f =
      let z = ap length (words_leaf k) in
      h (at - root) (omega arith) (omega arith) ∙ f

  -- after a node's own cell is filled, the others are as they were
  record Stored (c : Tree) (at : ℕ) (below after : List ℕ) : Type 0 where
    cell : Cell after c at
    others : (i : ℕ) → (i ≡ at - root → ⊥) → get_or after i 0 ≡ get_or below i 0
    long : length after ≡ 192

  stored_is : (c : Tree) (at next left : ℕ) (below after : List ℕ) → after ≡ stored root at (plan_of m action c next left) below → length below ≡ 192 → at - root < 192 → Stored c at below after
  unfolding stored
  stored_is c at next left below after e long room =
      let v = cell_of (in_set m action c) (capped (move_count m action c)) in
      let is : after ≡ set below (at - root) v = rw (lt-ltb (at - root) 192 room, stored) at e in
      record {
        cell = ap (λ l. get_or l (at - root) 0) is ∙ get_or-set_same below (at - root) v 0 (omega arith) ∙ cell_again (in_set m action c) (move_count m action c);
        others = λ i ne. ap (λ l. get_or l i 0) is ∙ get_or-set_other below (at - root) i v 0 ne;
        long = ap length is ∙ length-set below (at - root) v ∙ long;
      }

module _ (w sets counts : List ℕ) (m : Model) (action A : ℕ) (few : A ≤ max_actions) (root : ℕ) where
  abbrev P : ℕ → ℕ → Planned
  P = plan_at w sets counts action

  abbrev F : ℕ → ℕ → List ℕ → List ℕ
  F = fill_at w sets counts action root

  -- a subtree's cells are filled, and none before them is changed
  pub record Fills (c : Tree) (at : ℕ) (before after : List ℕ) : Type 0 where
    pub filled : Filled m action root after c at
    pub low : (i : ℕ) → i < at - root → get_or after i 0 ≡ get_or before i 0
    pub long : length after ≡ 192

  -- those of a `syn` or an `ini`, where those of what is under it are
  over : (list : List ℕ) (c d : Tree) (left at : ℕ) (rest cells : List ℕ) → tree_size d ≤ left → tree_size d ≡ suc (tree_size c) → length (tree_words d) ≡ 3 + length (tree_words c) → SynStands w at rest list c → root ≤ at → at - root + length (tree_words d) ≤ 192 → P left at ≡ plan_of m action d (at + length (tree_words d)) (left - tree_size d)
      → ((es : List ℕ) → Cell m action root es d at × Filled m action root es c (at + 3) → Filled m action root es d at) → Fills c (at + 3) cells (F (left - 1) (at + 3) cells) → Fills d at cells (F left at cells)
  unfolding fill_by
  over list c d left at rest cells h size y s l room whole with_cell below =
      let es = F (left - 1) (at + 3) cells in
      let step = fill_by_lem w sets counts action root left at (omega arith) (Syn (low_bits list) (high_bits list) (at + 3)) (sym s.node) cells in
      let is : F left at cells ≡ stored root at (plan_of m action d (at + length (tree_words d)) (left - tree_size d)) es = step ∙ ap (λ p. stored root at p es) whole in
      let k = stored_is m action root d at _ _ es (F left at cells) is below.long (omega arith) in
      record {
        filled = with_cell (F left at cells) (k.cell, same_filled m action root es (F left at cells) c (at + 3) (omega arith) (λ i p q. k.others i (λ n. omega arith)) below.filled);
        low = λ i p. k.others i (λ n. omega arith) ∙ below.low i (omega arith);
        long = k.long;
      }

  pub fills : (c : Tree) (left at : ℕ) (rest cells : List ℕ) → tree_size c ≤ left → drop at w ≡ tree_words c ++ rest → tree_rises A c ≡ true → Leaves (Told sets counts m action) c → root ≤ at → at - root + length (tree_words c) ≤ 192 → length cells ≡ 192 → Fills c at cells (F left at cells)
  unfolding tree_rises Leaves Filled fill_by
  fills (par c d) left at rest cells h e r g l room long =
      let s = par_stands w at rest c d e in
      let z = size_par c d in
      let y = length_par c d in
      let rc = and_left (tree_rises A c) _ r in
      let middle = at + 1 + length (tree_words c) in
      let first = fills c (left - 1) (at + 1) (tree_words d ++ rest) cells (omega arith) s.first rc g.0 (omega arith) (omega arith) long in
      let es = F (left - 1) (at + 1) cells in
      let second = fills d (left - 1 - tree_size c) middle rest es (omega arith) s.second (and_right (tree_rises A c) _ r) g.1 (omega arith) (omega arith) first.long in
      let fs = F (left - 1 - tree_size c) middle es in
      let pc = planned_is w sets counts m action A few c (left - 1) (at + 1) (tree_words d ++ rest) (omega arith) s.first rc g.0 in
      let whole = planned_is w sets counts m action A few (par c d) left at rest h e r g in
      let step = fill_by_lem w sets counts action root left at (omega arith) (Par (at + 1)) (sym s.node) cells in
      let is : F left at cells ≡ stored root at (plan_of m action (par c d) (at + length (tree_words (par c d))) (left - tree_size (par c d))) fs =
      step ∙ ap₂ (λ (p q : Planned). stored root at p (F q.left q.next es)) whole pc in
      let k = stored_is m action root (par c d) at _ _ fs (F left at cells) is second.long (omega arith) in
      let after_first : Filled m action root fs c (at + 1) = same_filled m action root es fs c (at + 1) (omega arith) (λ i p q. second.low i (omega arith)) first.filled in
      record {
        filled = (
          k.cell,
          same_filled m action root fs (F left at cells) c (at + 1) (omega arith) (λ i p q. k.others i (λ n. omega arith)) after_first,
          same_filled m action root fs (F left at cells) d middle (omega arith) (λ i p q. k.others i (λ n. omega arith)) second.filled,
        );
        low = λ i p. k.others i (λ n. omega arith) ∙ second.low i (omega arith) ∙ first.low i (omega arith);
        long = k.long;
      }
  fills (syn list c) left at rest cells h e r g l room long =
      let s = syn_stands w at rest list c e in
      let z = size_syn list c in
      let y = length_syn list c in
      over list c (syn list c) left at rest cells h z y s l room (planned_is w sets counts m action A few (syn list c) left at rest h e r g) (λ es f. f)
      (fills c (left - 1) (at + 3) rest cells (omega arith) s.next (and_right (rises A 0 list) _ r) g (omega arith) (omega arith) long)
  fills (ini p c) left at rest cells h e r g l room long =
      let s = ini_stands w at rest p c e in
      let z = size_ini p c in
      let y = length_ini p c in
      over [] c (ini p c) left at rest cells h z y s l room (planned_is w sets counts m action A few (ini p c) left at rest h e r g) (λ es f. f)
      (fills c (left - 1) (at + 3) rest cells (omega arith) s.next r g (omega arith) (omega arith) long)
  fills (leaf j) left at rest cells h e r g l room long =
      let z = size_leaf j in
      let y = ap length (words_leaf j) in
      let whole = planned_is w sets counts m action A few (leaf j) left at rest h e r g in
      let step = fill_by_lem w sets counts action root left at (omega arith) (Leaf j (at + 1)) (sym (leaf_stands w at rest j e)) cells in
      let is : F left at cells ≡ stored root at (plan_of m action (leaf j) (at + length (tree_words (leaf j))) (left - tree_size (leaf j))) cells = step ∙ ap (λ p. stored root at p cells) whole in
      let k = stored_is m action root (leaf j) at _ _ cells (F left at cells) is long (omega arith) in
      record { filled = k.cell; low = λ i p. k.others i (λ n. omega arith); long = k.long }
