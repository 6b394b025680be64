-- On a tree's words, membership is that of the tree's synchronising set.
use mathlib.Core.Path.{◌≡◌, refl, sym, ap, ap₂, ◌∙◌}
use mathlib.Core.Bool.{true, ◌||◌}
use mathlib.Core.List.{List, [], ◌++◌}
use Prim.Native.Nat.{ℕ, suc, ◌+◌, ◌-◌, ◌≤◌}
use native.Mathlib.Omega.{arith}
use lib.ListN.{length, get_or, take, drop}
use Rattle.model.specs.Basic.{exists, member}
use Rattle.model.specs.Bounds.{max_actions, max_tree_nodes}
use Rattle.model.specs.Composition.{Tree, par, syn, ini, leaf, tree_size}
use Rattle.model.specs.Model.{Model, automaton, in_set}
use Rattle.model.specs.Limits.{rises, tree_rises}
use Rattle.model.specs.Table.{low_bits, high_bits, bit, set_of}
use Rattle.model.proofs.Tests.{and_left, and_right}
use Rattle.model.proofs.Bits.{set_back}
use Rattle.model.proofs.Numbered.{Leaves}
use Rattle.model.proofs.LimitLines.{rises_ranged}
use Rattle.table_tree.specs.declared.nodes.Found.TheVariants.{Par, Syn, Leaf}
use Rattle.table_tree.specs.declared.members.Membership.{Membership}
use Rattle.table_tree.specs.Nodes.{tree_words}
use Rattle.table_tree.specs.Members.{membership, member_at, in_set_at}
use Rattle.table_tree.proofs.MemberLaws.{member_par, member_syn, member_leaf}
use Rattle.table_tree.proofs.Standing.{begins, SynStands, par_stands, syn_stands, ini_stands, leaf_stands, size_par, size_syn, size_ini, size_leaf, length_par, length_syn, length_ini, words_leaf}

pub list_back : (A : ℕ) (list : List ℕ) → A ≤ max_actions → rises A 0 list ≡ true → set_of (low_bits list) (high_bits list) ≡ list
list_back A list few r = set_back A list r (rises_ranged A 0 list few r)

module _ (w sets : List ℕ) (m : Model) (action A : ℕ) (few : A ≤ max_actions) where
  -- automaton k's own set, as a word, says of the action what the model says
  abbrev pub Agrees : ℕ → Type 0
  Agrees k = bit (get_or sets k 0) action ≡ member action (automaton m k).sync

  -- a `syn` or an `ini`, with the set of its node
  over : (list : List ℕ) (c d : Tree) (left at : ℕ) (rest : List ℕ) → tree_size d ≤ left → tree_size d ≡ suc (tree_size c) → length (tree_words d) ≡ 3 + length (tree_words c) → SynStands w at rest list c → rises A 0 list ≡ true → member_at w sets action (left - 1) (at + 3) ≡ membership (in_set m action c) (at + 3 + length (tree_words c)) (left - 1 - tree_size c) → member_at w sets action left at ≡ membership (member action list || in_set m action c) (at + length (tree_words d)) (left - tree_size d)
  over list c d left at rest h size long s up below =
      let back = ap (member action) (sym (list_back A list few up)) in
      sym (member_syn w sets action left at (omega arith) (Syn (low_bits list) (high_bits list) (at + 3)) (sym s.node) (low_bits list) (high_bits list) (at + 3) refl (member action list) back _ (sym below))
      ∙ ap₂ (membership _) (omega arith) (omega arith)

  inside : (c : Tree) (left at : ℕ) (rest : List ℕ) → tree_size c ≤ left → drop at w ≡ tree_words c ++ rest → tree_rises A c ≡ true → Leaves Agrees c → member_at w sets action left at ≡ membership (in_set m action c) (at + length (tree_words c)) (left - tree_size c)
  unfolding in_set tree_rises rises member exists Leaves
  inside (par c d) left at rest h e r g =
      let s = par_stands w at rest c d e in
      let z = size_par c d in
      let first = inside c (left - 1) (at + 1) (tree_words d ++ rest) (omega arith) s.first (and_left (tree_rises A c) _ r) g.0 in
      let second = inside d (left - 1 - tree_size c) (at + 1 + length (tree_words c)) rest (omega arith) s.second (and_right (tree_rises A c) _ r) g.1 in
      sym (member_par w sets action left at (omega arith) (Par (at + 1)) (sym s.node) (at + 1) refl _ _ (sym first) (sym second))
      ∙ ap₂ (membership _) (omega (arith, length_par c d)) (omega arith)
  inside (syn list c) left at rest h e r g =
      let s = syn_stands w at rest list c e in
      let z = size_syn list c in
      over list c (syn list c) left at rest h z (length_syn list c) s (and_left (rises A 0 list) _ r) (inside c (left - 1) (at + 3) rest (omega arith) s.next (and_right (rises A 0 list) _ r) g)
  inside (ini p c) left at rest h e r g =
      let s = ini_stands w at rest p c e in
      let z = size_ini p c in
      over [] c (ini p c) left at rest h z (length_ini p c) s refl (inside c (left - 1) (at + 3) rest (omega arith) s.next r g)
  inside (leaf k) left at rest h e r g =
      let z = size_leaf k in
      sym (member_leaf w sets action left at (omega arith) (Leaf k (at + 1)) (sym (leaf_stands w at rest k e)) k (at + 1) refl (get_or sets k 0) refl _ (sym g))
      ∙ ap₂ (λ l n. membership (member action (automaton m k).sync) (at + length l) n) (sym (words_leaf k)) (omega arith)

  -- the walk, and `in_set`
  pub member_of : (c : Tree) (at : ℕ) → tree_size c ≤ max_tree_nodes → take (length (tree_words c)) (drop at w) ≡ tree_words c → tree_rises A c ≡ true → Leaves Agrees c → member_at w sets action max_tree_nodes at ≡ membership (in_set m action c) (at + length (tree_words c)) (max_tree_nodes - tree_size c)
  member_of c at small e r g = inside c max_tree_nodes at _ small (begins w (tree_words c) at e) r g

  pub in_set_of : (c : Tree) (at : ℕ) → tree_size c ≤ max_tree_nodes → take (length (tree_words c)) (drop at w) ≡ tree_words c → tree_rises A c ≡ true → Leaves Agrees c → in_set_at w sets action at ≡ in_set m action c
  unfolding in_set_at
  in_set_of c at small e r g = ap (λ (r : Membership). r.inside) (member_of c at small e r g)
