-- A merged edge tells its takers, so the merged edges, each once, are those of the moves, each once.
use mathlib.Core.Path.{◌≡◌, refl, sym, ap, ap₂, ◌∙◌, fun_ext}
use mathlib.Core.Bool.{true, not}
use mathlib.Core.List.Memᴰ
use mathlib.Core.List.{List, [], ◌∷◌, ◌++◌, map, flat_map, Memᴰ, nil≢cons, cons≢nil, head-eq_of_cons-eq, tail-eq_of_cons-eq}
use mathlib.Core.Logic.{◌↔◌}
use Prim.Native.Nat.{ℕ, zero, suc, ◌+◌, ◌≤◌}
use native.Mathlib.Omega.{arith}
use lib.ListN.{length, take, drop, length-append, length-map}
use lib.Seq.{take_at, drop_at}
use lib.Dec.{eqb}
use Rattle.model.specs.Basic.{once, count_up}
use Rattle.model.specs.Predicate.{Pred, Preds, all, none, more, preds}
use Rattle.model.specs.Model.{Model, Edge}
use Rattle.model.specs.Rules.{Taker}
use Rattle.model.specs.Moves.{moves}
use Rattle.model.specs.Equal.{same_edge}
use Rattle.model.specs.Linear.{pointer, pointer_moves, merged_edge, edges_with_repeats, merged_edges}
use Rattle.model.proofs.Tests.{eq_of, of_eq, not_eq}
use Rattle.model.proofs.Lists.{keep_whole}
use Rattle.model.proofs.LimitsLaws.{Members, members, no_members}
use Rattle.model.proofs.EqualLaws.{edge_is, same_edge_is}
use Rattle.model.proofs.Once.{once_map, once_flat}
use Rattle.model.proofs.Numbered.{leaves_all}
use Rattle.model.proofs.Takers.{takers_under}
use Rattle.model.proofs.OnceMoves.{same_takers, same_by, taker_is}
use Rattle.model.proofs.Pointers.{pointers_length}

-- the list of which `preds` made the operands
abbrev list_of : Preds → List Pred
list_of none = []
list_of (more p ps) = p ∷ list_of ps

-- it gives the list back
list_back : (l : List Pred) → list_of (preds l) ≡ l
unfolding preds
list_back [] = refl
list_back (p ∷ l) = ap (λ (r : List Pred). p ∷ r) (list_back l)

-- numbers counted up are no less than the first
counted_from : (n count : ℕ) → Members (λ a. n ≤ a) (count_up n count)
unfolding count_up
counted_from n zero = no_members (λ a. n ≤ a)
counted_from n (suc count) = members (λ a. n ≤ a) n (count_up (suc n) count) (omega arith) (λ a i. let l = counted_from (suc n) count a i in omega arith)

-- so each of them stands once
count_once : (n count : ℕ) → once eqb (count_up n count) ≡ count_up n count
unfolding once count_up
count_once n zero = refl
count_once n (suc count) =
    rw (count_once (suc n) count)
    (ap (λ (l : List ℕ). n ∷ l) (keep_whole (λ a. not (eqb n a)) (count_up (suc n) count) (λ a i. let l = counted_from (suc n) count a i in ap not (not_eq n a (λ e. omega arith)))))

-- the test of equal numbers is equality
eqb_is : (a b : ℕ) → (eqb a b ≡ true) ↔ (a ≡ b)
eqb_is a b = (eq_of a b, of_eq a b)

module _ (m : Model) (a : ℕ) where
  -- the takers' updates
  abbrev updates : List Taker → List Pred
  updates x = map (λ y. y.edge.update) x

  -- takers under one action with equal updates and pointers are equal
  takers_back : (x y : List Taker) → Members (λ t. t.edge.action ≡ a) x → Members (λ t. t.edge.action ≡ a) y → updates x ≡ updates y → pointer_moves m x ≡ pointer_moves m y → x ≡ y
  unfolding pointer_moves pointer
  takers_back [] [] f g p q = refl
  takers_back [] (u ∷ y) f g p q = absurd (nil≢cons p)
  takers_back (t ∷ x) [] f g p q = absurd (cons≢nil p)
  takers_back (t ∷ x) (u ∷ y) f g p q =
      let q' = tail-eq_of_cons-eq q in
      let r = head-eq_of_cons-eq q in
      let s = head-eq_of_cons-eq q' in
      let k : length m.variables + t.automaton ≡ length m.variables + u.automaton = cc in
      let from : t.edge.from ≡ u.edge.from = cc in
      let to : t.edge.to ≡ u.edge.to = cc in
      let action : t.edge.action ≡ u.edge.action = f t (Memᴰ.head refl) ∙ sym (g u (Memᴰ.head refl)) in
      ap₂ (λ z l. z ∷ l)
      (taker_is t u (omega arith) (edge_is t.edge u.edge from action to (head-eq_of_cons-eq p)))
      (takers_back x y (λ z i. f z (Memᴰ.tail i)) (λ z i. g z (Memᴰ.tail i)) (tail-eq_of_cons-eq p) (tail-eq_of_cons-eq q'))

  -- the takers of a move under the action take edges of that action
  acting : (x : List Taker) → Memᴰ x (moves m a m.tree) → Members (λ t. t.edge.action ≡ a) x
  acting x i = takers_under m a (λ t. t.edge.action ≡ a) m.tree (leaves_all (λ k e j q. q) m.tree) i

  -- a merged edge tells its takers
  merged_back : (x y : List Taker) → Memᴰ x (moves m a m.tree) → Memᴰ y (moves m a m.tree) → merged_edge m a x ≡ merged_edge m a y → x ≡ y
  unfolding merged_edge
  merged_back x y i j e =
      let lx = updates x ++ pointer_moves m x in
      let ly = updates y ++ pointer_moves m y in
      let h : all (preds lx) ≡ all (preds ly) = ap (λ (d : Edge). d.update) e in
      let g : preds lx ≡ preds ly = cc in
      let same : lx ≡ ly = sym (list_back lx) ∙ ap list_of g ∙ list_back ly in
      let n : length (updates x) ≡ length (updates y) = omega (arith, ap (length {A = Pred}) same, length-append (updates x) (pointer_moves m x), length-append (updates y) (pointer_moves m y), length-map x (λ (t : Taker). t.edge.update), length-map y (λ (t : Taker). t.edge.update), pointers_length m x, pointers_length m y) in
      takers_back x y (acting x i) (acting y j)
      (sym (take_at (updates x) (pointer_moves m x) (length (updates y)) n) ∙ ap (take (length (updates y))) same ∙ take_at (updates y) (pointer_moves m y) (length (updates y)) refl)
      (sym (drop_at (updates x) (pointer_moves m x) (length (updates y)) n) ∙ ap (drop (length (updates y))) same ∙ drop_at (updates y) (pointer_moves m y) (length (updates y)) refl)

  -- the merged edges of one action
  edges_once : once same_edge (map (merged_edge m a) (moves m a m.tree)) ≡ map (merged_edge m a) (once same_takers (moves m a m.tree))
  edges_once = once_map same_takers same_edge (merged_edge m a) (moves m a m.tree) (λ x y i j. same_by same_edge same_edge_is (merged_edge m a) x y (merged_back x y i j))

-- the merged edges: those of each action, each once
pub merged_once : (m : Model) → merged_edges m ≡ flat_map (λ a. map (merged_edge m a) (once same_takers (moves m a m.tree))) (count_up 0 (suc m.actions))
unfolding merged_edges edges_with_repeats merged_edge
merged_once m =
    once_flat eqb same_edge eqb_is same_edge_is (λ a. map (merged_edge m a) (moves m a m.tree)) (count_up 0 (suc m.actions)) (λ a b i j e p q.
    let r = Memᴰ.of_map (merged_edge m a) (moves m a m.tree) p in
    let s = Memᴰ.of_map (merged_edge m b) (moves m b m.tree) q in
    ap (λ (d : Edge). d.action) (r.2 ∙ sym s.2))
    ∙ ap₂ (λ g l. flat_map g l) (fun_ext (edges_once m)) (count_once 0 (suc m.actions))
