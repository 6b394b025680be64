-- On a lawful tree's words, the plan has each subtree's membership and its count of moves, capped.
use mathlib.Core.Path.{◌≡◌, refl, sym, ap, ap₂, ◌∙◌}
use mathlib.Core.Bool.{true, ◌||◌}
use mathlib.Core.List.{List, [], ◌++◌}
use Prim.Native.Nat.{ℕ, suc, ◌+◌, ◌-◌, ◌≤◌}
use native.Mathlib.Omega.{arith}
use lib.ListN.{length, get_or, drop}
use Rattle.model.specs.Basic.{exists, member}
use Rattle.model.specs.Bounds.{max_actions}
use Rattle.model.specs.Predicate.{Pred}
use Rattle.model.specs.Composition.{Tree, par, syn, ini, leaf, tree_size}
use Rattle.model.specs.Model.{Model, automaton, in_set}
use Rattle.model.specs.Moves.{under, sides_count, move_count}
use Rattle.model.specs.Limits.{rises, tree_rises}
use Rattle.model.specs.Table.{low_bits, high_bits, bit}
use Rattle.model.proofs.Tests.{and_left, and_right}
use Rattle.model.proofs.Numbered.{Leaves}
use Rattle.table_tree.specs.declared.nodes.Found.TheVariants.{Par, Syn, Leaf}
use Rattle.table_tree.specs.Nodes.{tree_words}
use Rattle.table_tree.proofs.Standing.{SynStands, par_stands, syn_stands, ini_stands, leaf_stands, size_par, size_syn, size_ini, size_leaf, length_par, length_syn, length_ini, words_leaf}
use Rattle.table_tree.proofs.Inside.{list_back}
use Rattle.merge_moves.specs.declared.planning.Planned.{Planned}
use Rattle.merge_moves.specs.Capping.{capped}
use Rattle.merge_moves.specs.Plan.{planned, par_plan, syn_plan, leaf_plan, plan_at}
use Rattle.merge_moves.proofs.PlanLaws.{plan_par, plan_syn, plan_leaf}
use Rattle.merge_moves.proofs.Capped.{cap_twice, cap_sides}

-- what the caller's arrays say of automaton k: its own set, of the action, and its edges under the action
pub record Told (sets counts : List ℕ) (m : Model) (action k : ℕ) : Type 0 where
  pub inside : bit (get_or sets k 0) action ≡ member action (automaton m k).sync
  pub edges : get_or counts k 0 ≡ length (under action (automaton m k).edges)

-- what a plan says of a subtree that ends at `next`, where so many nodes are left
abbrev pub plan_of : Model → (action : ℕ) → Tree → (next left : ℕ) → Planned
plan_of m action c next left = planned (in_set m action c) (capped (move_count m action c)) next left

module _ (m : Model) (action : ℕ) where
  par_plan_lem : (c d : Tree) (n k o l : ℕ) → par_plan (plan_of m action c n k) (plan_of m action d o l) ≡ plan_of m action (par c d) o l
  unfolding par_plan in_set move_count
  par_plan_lem c d n k o l =
      let b = in_set m action c in
      let e = in_set m action d in
      let x = move_count m action c in
      let y = move_count m action d in
      ap (λ z. planned (b || e) z o l)
      (ap₂ (λ u v. capped (sides_count b e u v)) (cap_twice x) (cap_twice y) ∙ cap_sides b e x y)

  syn_plan_lem : (list : List ℕ) (c : Tree) (n l : ℕ) → syn_plan list action (plan_of m action c n l) ≡ plan_of m action (syn list c) n l
  unfolding syn_plan in_set move_count
  syn_plan_lem list c n l = refl

  ini_plan : (p : Pred) (c : Tree) (n l : ℕ) → syn_plan [] action (plan_of m action c n l) ≡ plan_of m action (ini p c) n l
  unfolding syn_plan in_set move_count member exists
  ini_plan p c n l = refl

  leaf_plan_lem : (sets counts : List ℕ) (k n l : ℕ) → Told sets counts m action k → leaf_plan sets counts action k n l ≡ plan_of m action (leaf k) n l
  unfolding leaf_plan in_set move_count
  leaf_plan_lem sets counts k n l t = ap₂ (λ b x. planned b (capped x) n l) t.inside t.edges

module _ (w sets counts : List ℕ) (m : Model) (action A : ℕ) (few : A ≤ max_actions) where
  -- a `syn` or an `ini`, with the set of its node
  over : (list : List ℕ) (c d : Tree) (left at : ℕ) (rest : List ℕ) → tree_size d ≤ left → tree_size d ≡ suc (tree_size c) → length (tree_words d) ≡ 3 + length (tree_words c) → ((n l : ℕ) → syn_plan list action (plan_of m action c n l) ≡ plan_of m action d n l) → SynStands w at rest list c → rises A 0 list ≡ true → plan_at w sets counts action (left - 1) (at + 3) ≡ plan_of m action c (at + 3 + length (tree_words c)) (left - 1 - tree_size c)
      → plan_at w sets counts action left at ≡ plan_of m action d (at + length (tree_words d)) (left - tree_size d)
  over list c d left at rest h size long plan s up below =
      let back = list_back A list few up in
      sym (plan_syn w sets counts action 0 left at (omega arith) (Syn (low_bits list) (high_bits list) (at + 3)) (sym s.node) _ (low_bits list) (high_bits list) (at + 3) refl _ (sym below) _ refl refl)
      ∙ ap (λ l. syn_plan l action (plan_of m action c (at + 3 + length (tree_words c)) (left - 1 - tree_size c))) back
      ∙ plan _ _
      ∙ ap₂ (plan_of m action d) (omega arith) (omega arith)

  pub planned_is : (c : Tree) (left at : ℕ) (rest : List ℕ) → tree_size c ≤ left → drop at w ≡ tree_words c ++ rest → tree_rises A c ≡ true → Leaves (Told sets counts m action) c → plan_at w sets counts action left at ≡ plan_of m action c (at + length (tree_words c)) (left - tree_size c)
  unfolding tree_rises rises Leaves
  planned_is (par c d) left at rest h e r g =
      let s = par_stands w at rest c d e in
      let z = size_par c d in
      let first = planned_is c (left - 1) (at + 1) (tree_words d ++ rest) (omega arith) s.first (and_left (tree_rises A c) _ r) g.0 in
      let second = planned_is d (left - 1 - tree_size c) (at + 1 + length (tree_words c)) rest (omega arith) s.second (and_right (tree_rises A c) _ r) g.1 in
      sym (plan_par w sets counts action 0 left at (omega arith) (Par (at + 1)) (sym s.node) _ (at + 1) refl _ _ (sym first) (sym second) _ refl refl)
      ∙ par_plan_lem m action c d _ _ _ _
      ∙ ap₂ (plan_of m action (par c d)) (omega (arith, length_par c d)) (omega arith)
  planned_is (syn list c) left at rest h e r g =
      let s = syn_stands w at rest list c e in
      let z = size_syn list c in
      over list c (syn list c) left at rest h z (length_syn list c) (syn_plan_lem m action list c) s (and_left (rises A 0 list) _ r)
      (planned_is c (left - 1) (at + 3) rest (omega arith) s.next (and_right (rises A 0 list) _ r) g)
  planned_is (ini p c) left at rest h e r g =
      let s = ini_stands w at rest p c e in
      let z = size_ini p c in
      over [] c (ini p c) left at rest h z (length_ini p c) (ini_plan m action p c) s refl
      (planned_is c (left - 1) (at + 3) rest (omega arith) s.next r g)
  planned_is (leaf k) left at rest h e r g =
      let z = size_leaf k in
      sym (plan_leaf w sets counts action 0 left at (omega arith) (Leaf k (at + 1)) (sym (leaf_stands w at rest k e)) _ k (at + 1) refl _ refl refl)
      ∙ leaf_plan_lem m action sets counts k (at + 1) (left - 1) g
      ∙ ap₂ (λ l n. plan_of m action (leaf k) (at + length l) n) (sym (words_leaf k)) (omega arith)
