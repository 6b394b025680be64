-- The takers that a list of picked edges names, over the leaves of a tree.
use mathlib.Core.Path.{◌≡◌, sym, ap, ap₂, ◌∙◌}
use mathlib.Core.List.{List, [], ◌++◌, flat_map, append-nil}
use Prim.Native.Nat.{ℕ, ◌+◌, ◌≤◌, ◌<◌}
use native.Mathlib.Omega.{arith}
use lib.ListN.{get_or}
use Rattle.model.specs.Composition.{Tree, par, syn, ini, leaf, leaves}
use Rattle.model.specs.Model.{Model}
use Rattle.model.proofs.Numbered.{size, Numbered}
use Rattle.model.proofs.Lists.{flat_append}
use Rattle.merge_moves.specs.Takers.{taker_of, takers_in}

module _ (m : Model) (action : ℕ) where
  pub takers_joined : (picked : List ℕ) (c d : Tree) → takers_in m action picked (leaves (par c d)) ≡ takers_in m action picked (leaves c) ++ takers_in m action picked (leaves d)
  unfolding takers_in leaves
  takers_joined picked c d = flat_append (λ i. taker_of m action i (get_or picked i 0)) (leaves c) (leaves d)

  pub takers_leaf : (picked : List ℕ) (k : ℕ) → takers_in m action picked (leaves (leaf k)) ≡ taker_of m action k (get_or picked k 0)
  unfolding takers_in leaves flat_map
  takers_leaf picked k = append-nil (taker_of m action k (get_or picked k 0))

  -- what is picked elsewhere does not count
  pub takers_same : (c : Tree) (i : ℕ) (some others : List ℕ) → Numbered i c → ((j : ℕ) → i ≤ j → j < i + size c → get_or others j 0 ≡ get_or some j 0) → takers_in m action others (leaves c) ≡ takers_in m action some (leaves c)
  unfolding Numbered size leaves
  takers_same (par c d) i some others n h =
      takers_joined others c d
      ∙ ap₂ (λ x y. x ++ y)
      (takers_same c i some others n.0 (λ j p q. h j p (omega arith)))
      (takers_same d (i + size c) some others n.1 (λ j p q. h j (omega arith) (omega arith)))
      ∙ sym (takers_joined some c d)
  takers_same (syn list c) i some others n h = takers_same c i some others n h
  takers_same (ini p c) i some others n h = takers_same c i some others n h
  takers_same (leaf k) i some others n h =
      takers_leaf others k ∙ ap (taker_of m action k) (h k (omega arith) (omega arith)) ∙ sym (takers_leaf some k)

  -- where nothing is picked, nobody takes
  pub takers_none : (c : Tree) (i : ℕ) (picked : List ℕ) → Numbered i c → ((j : ℕ) → i ≤ j → j < i + size c → get_or picked j 0 ≡ 0) → takers_in m action picked (leaves c) ≡ []
  unfolding Numbered size taker_of leaves
  takers_none (par c d) i picked n h =
      takers_joined picked c d
      ∙ ap₂ (λ x y. x ++ y)
      (takers_none c i picked n.0 (λ j p q. h j p (omega arith)))
      (takers_none d (i + size c) picked n.1 (λ j p q. h j (omega arith) (omega arith)))
  takers_none (syn list c) i picked n h = takers_none c i picked n h
  takers_none (ini p c) i picked n h = takers_none c i picked n h
  takers_none (leaf k) i picked n h = takers_leaf picked k ∙ ap (taker_of m action k) (h k (omega arith) (omega arith))
