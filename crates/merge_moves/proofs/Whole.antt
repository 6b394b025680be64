-- The laws of `plan` and `pick`: on the words of a lawful model's tree, the plan counts the moves of an action, capped, and each pick
-- names the takers of its move.
use mathlib.Core.Path.{◌≡◌, refl, sym, ap, ◌∙◌}
use mathlib.Core.List.{List, []}
use Prim.Native.Nat.{ℕ, suc, ◌+◌, ◌-◌, ◌≤◌, ◌<◌}
use native.Mathlib.Omega.{arith}
use lib.ListN.{length, get_or, take, drop, replicate, get_or-replicate}
use Rattle.model.specs.Basic.{count_up}
use Rattle.model.specs.Bounds.{max_edges, max_tree_nodes}
use Rattle.model.specs.Composition.{Tree, leaves, tree_size}
use Rattle.model.specs.Model.{Model, automaton}
use Rattle.model.specs.Moves.{under, moves, move_count}
use Rattle.model.specs.Lawful.{Lawful}
use Rattle.model.proofs.Numbered.{numbered, size_is, Leaves, leaves_in}
use Rattle.table_tree.specs.Nodes.{tree_words}
use Rattle.table_tree.proofs.Standing.{begins}
use Rattle.merge_moves.specs.Plan.{plan_at, fill_at}
use Rattle.merge_moves.specs.Pick.{pick_at}
use Rattle.merge_moves.specs.Takers.{takers_in, takers_of}
use Rattle.merge_moves.proofs.Plans.{Told, plan_of, planned_is}
use Rattle.merge_moves.proofs.Cells.{Filled, few_words, fills}
use Rattle.merge_moves.proofs.Picks.{Took, picks}

module _ (w sets counts : List ℕ) (m : Model) (action at : ℕ) (law : Lawful m)
    (stands : take (length (tree_words m.tree)) (drop at w) ≡ tree_words m.tree)
    (told : (k : ℕ) → k < length m.automata → Told sets counts m action k) where
  abbrev c : Tree
  c = m.tree

  in_order : leaves c ≡ count_up 0 (length m.automata)
  in_order = law.tree.in_order

  all_told : Leaves (Told sets counts m action) c
  all_told = leaves_in c 0 (numbered c _ in_order) (λ k p q. told k (omega (arith, size_is c _ in_order)))

  -- the plan's answer
  pub plan_is : plan_at w sets counts action max_tree_nodes at ≡ plan_of m action c (at + length (tree_words c)) (max_tree_nodes - tree_size c)
  plan_is = planned_is w sets counts m action m.actions law.few_actions c max_tree_nodes at _ law.tree.size (begins w (tree_words c) at stands) law.tree.lists all_told

  module _ (cells : List ℕ) (long : length cells ≡ 192) where
    abbrev plan : List ℕ
    plan = fill_at w sets counts action at max_tree_nodes at cells

    -- each subtree's cell
    pub fill_is : Filled m action at plan c at
    fill_is =
        let z = law.tree.size in
        (fills w sets counts m action m.actions law.few_actions at c max_tree_nodes at _ cells z (begins w (tree_words c) at stands) law.tree.lists all_told (omega arith) (omega (arith, few_words c)) long).filled

    abbrev picked : ℕ → List ℕ
    picked k = pick_at w plan at max_tree_nodes at k (replicate 16 0)

    module _ (k : ℕ) (there-is : k < move_count m action c) (few : move_count m action c ≤ max_edges) where
      took : Took m action c 0 (replicate 16 0) (picked k) (get_or (moves m action c) k [])
      unfolding pick_at
      took =
          let z = law.tree.size in
          let n = law.few_automata in
          let s = size_is c _ in_order in
          (picks w plan m action at c 0 max_tree_nodes at k _ (replicate 16 0) z z (begins w (tree_words c) at stands) (omega (arith, few_words c)) fill_is
          (numbered c _ in_order) (omega arith) refl (λ j p q. get_or-replicate 16 j 0 0 (omega arith)) there-is few).0

      -- a pick names the takers of its move
      pub pick_is : takers_of m action (picked k) ≡ get_or (moves m action c) k []
      unfolding takers_of
      pick_is = ap (takers_in m action (picked k)) (sym in_order) ∙ took.takers

      -- and only edges that are there
      pub pick_there : (i q : ℕ) → i < length m.automata → get_or (picked k) i 0 ≡ suc q → q < length (under action (automaton m i).edges)
      pick_there i q h e =
          let s = size_is c _ in_order in
          took.there i (omega arith) (omega arith) q e
