-- The merged sheet of a sheet in another format without owners is the merged sheet in that format, and the same row
-- refuses it.
use Prim.Native.Nat.{ℕ, suc, ◌<◌}
use mathlib.Core.Path.{◌≡◌, refl, ap, ap₂, fun_ext}
use mathlib.Core.List.{List, [], ◌∷◌, ◌++◌, map, flat_map}
use Rattle.model.specs.Basic.{keep, once, sum, count_up}
use Rattle.model.specs.Predicate.{Pred, all, preds}
use Rattle.model.specs.Composition.{Tree, par, syn, ini, leaf, starts}
use Rattle.model.specs.Model.{Model, Location, Edge, Automaton, in_set}
use Rattle.model.specs.Equal.{same_edge}
use Rattle.model.specs.Rules.{Taker}
use Rattle.model.specs.Moves.{distinct_count}
use Rattle.model.specs.Linear.{pointer, at_locations, at_automata, merged_init, merged_inv, pointer_moves, merged_edge, edges_with_repeats, merged_edges, merged_count, linear, merged_preds, row31, row32, row33, row34, merge_fault}
use Rattle.model.specs.Bounds.{owners_format}
use Rattle.model.proofs.Lists.{keep_ext}
use Rattle.model.proofs.Owners.{pointer_unowned}
use Rattle.theorem_lists.specs.Lists.{in_format}
use Rattle.theorem_lists.proofs.SameSheet.{set_same, moves_same}

module _ (f : ℕ) (m : Model) where
  locations_same : (part : Location → Pred) (i j : ℕ) (ls : List Location) → at_locations (in_format f m) part i j ls ≡ at_locations m part i j ls
  unfolding at_locations pointer in_format
  locations_same part i j [] = refl
  locations_same part i j (l ∷ ls) = rw (locations_same part i (suc j) ls)

  automata_same : (part : Location → Pred) (i : ℕ) (xs : List Automaton) → at_automata (in_format f m) part i xs ≡ at_automata m part i xs
  unfolding at_automata
  automata_same part i [] = refl
  automata_same part i (x ∷ xs) = ap₂ (λ k l. k ++ l) (locations_same part i 0 x.locations) (automata_same part (suc i) xs)

  init_same : merged_init (in_format f m) ≡ merged_init m
  unfolding merged_init in_format
  init_same = ap (λ (l : List Pred). all (preds (l ++ starts m.tree))) (automata_same (λ l. l.init) 0 m.automata)

  inv_same : merged_inv (in_format f m) ≡ merged_inv m
  unfolding merged_inv in_format
  inv_same = ap (λ (l : List Pred). all (preds l)) (automata_same (λ l. l.inv) 0 m.automata)

  pointers_same : (x : List Taker) → pointer_moves (in_format f m) x ≡ pointer_moves m x
  unfolding pointer_moves pointer in_format
  pointers_same [] = refl
  pointers_same (t ∷ x) = rw (pointers_same x)

  edge_same : (a : ℕ) (x : List Taker) → merged_edge (in_format f m) a x ≡ merged_edge m a x
  unfolding merged_edge
  edge_same a x = rw (pointers_same x)

  edges_same : merged_edges (in_format f m) ≡ merged_edges m
  unfolding merged_edges edges_with_repeats in_format
  edges_same =
      ap (λ (g : ℕ → List Edge). once same_edge (flat_map g (count_up 0 (suc m.actions))))
      (fun_ext λ a. ap₂ (λ g l. map g l) (fun_ext (edge_same a)) (moves_same f m a m.tree))

  sets_same : keep (λ a. in_set (in_format f m) a m.tree) (count_up 1 m.actions) ≡ keep (λ a. in_set m a m.tree) (count_up 1 m.actions)
  sets_same = keep_ext _ _ (count_up 1 m.actions) (λ a i. set_same f m a m.tree)

  pub linear_same : f < owners_format → m.format < owners_format → linear (in_format f m) ≡ in_format f (linear m)
  unfolding linear in_format
  linear_same late early = rw (init_same, inv_same, sets_same, edges_same, pointer_unowned f late, pointer_unowned m.format early)

  -- the rows
  counts_same : (a : ℕ) (c : Tree) → distinct_count (in_format f m) a c ≡ distinct_count m a c
  unfolding distinct_count in_format
  counts_same a (par c d) = rw (set_same f m a c, set_same f m a d, counts_same a c, counts_same a d)
  counts_same a (syn list c) = counts_same a c
  counts_same a (ini p c) = counts_same a c
  counts_same a (leaf k) = refl

  count_same : merged_count (in_format f m) ≡ merged_count m
  unfolding merged_count in_format
  count_same = ap (λ (g : ℕ → ℕ). sum (map g (count_up 0 (suc m.actions)))) (fun_ext λ a. counts_same a m.tree)

  preds_same : merged_preds (in_format f m) ≡ merged_preds m
  unfolding merged_preds
  preds_same = rw (init_same, inv_same, edges_same)

  pub fault_same : merge_fault (in_format f m) ≡ merge_fault m
  unfolding merge_fault row31 row32 row33 row34 in_format
  fault_same = rw (count_same, preds_same)
