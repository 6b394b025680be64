-- The merged edges that are counted are those of row 32, and the variables those of row 31.
use mathlib.Core.Path.{◌≡◌, sym, ap, ap₂, ◌∙◌}
use mathlib.Core.Bool.{false}
use mathlib.Core.List.{List, ◌++◌, map}
use Prim.Native.Nat.{ℕ, zero, suc, ◌+◌, ◌≤◌, ◌<◌}
use native.Mathlib.Omega.{arith}
use native.Mathlib.Decide.{dec_lt}
use native.Mathlib.Nat.{zero-add}
use native.Mathlib.Numerals.{add-one}
use lib.ListN.{length}
use lib.Dec.{ltb}
use borrow.Author.Tests.{ltb-false, lt-ltb}
use Rattle.model.specs.Basic.{sum, count_up}
use Rattle.model.specs.Bounds.{max_variables, max_edges}
use Rattle.model.specs.Model.{Model}
use Rattle.model.specs.Lawful.{Lawful}
use Rattle.model.specs.Table.{sheet_words}
use Rattle.model.specs.Moves.{move_count}
use Rattle.model.specs.Linear.{row31}
use Rattle.model.specs.Repeats.{count_with_repeats, row32_with_repeats}
use Rattle.merge_moves.specs.declared.planning.Planned.{Planned}
use Rattle.merge_moves.specs.Capping as M
use Rattle.merge_moves.proofs.CappingLaws.{cap_small, cap_large}
use Rattle.merge_moves.proofs.Whole.{plan_is}
use Rattle.merge_append.specs.NodeWords.{pointer_of, most, capped}
use Rattle.merge_takers.specs.Moves.{counts_of, root_of, move_total, moves_of, moves_in}
use Rattle.merge_append.proofs.NodeLaws.{capped_over, capped_is}
use Rattle.merge_table.proofs.HeadIs.{pointer_sum, laid_variables, laid_automata}
use Rattle.merge_table.proofs.Standing.{own_of}
use Rattle.table_places.specs.declared.layout.Layout.{Layout}
use Rattle.table_places.specs.Layout.{layout_of}
use Rattle.merge_table.proofs.SyncIs.{root_stands}
use Rattle.merge_table.proofs.MovesAre.{last_is, told}

-- a sum above 512 stays above it where it is cut to a word
capped_large : (n : ℕ) → max_edges < n → max_edges < capped n
capped_large n h = go (dec_lt most n)
  where
    go : Dec (most < n) → max_edges < capped n
    go (yes l) = omega (arith, capped_over n l)
    go (no l) = omega (arith, capped_is n (omega arith))

-- the moves of n actions, from one on
abbrev count_from : Model → (a n : ℕ) → ℕ
count_from m a n = sum (map (λ b. move_count m b m.tree) (count_up a n))

-- those of one action are no more
one_of : (m : Model) (n b a : ℕ) → b ≤ a → a < b + n → move_count m a m.tree ≤ count_from m b n
unfolding sum count_up
one_of m zero b a l h = absurd (omega arith)
one_of m (suc n) b a l h = go (dec_lt b a) (λ k. one_of m n (suc b) a k (omega arith))
  where
    go : Dec (b < a) → (suc b ≤ a → move_count m a m.tree ≤ count_from m (suc b) n) → move_count m a m.tree ≤ move_count m b m.tree + count_from m (suc b) n
    go (yes k) ih = let i = ih k in omega arith
    go (no k) ih =
        let z : a ≡ b = omega arith in
        let c : move_count m a m.tree ≡ move_count m b m.tree = ap (λ x. move_count m x m.tree) z in
        omega arith

module _ (m : Model) (lawful : Lawful m) (t rest : List ℕ) (e : t ≡ sheet_words m ++ rest) where
  abbrev lay : Layout
  lay = layout_of t

  -- the plan's count, which is cut above 512
  total_cut : (action : ℕ) → move_total t lay (own_of t) action ≡ M.capped (move_count m action m.tree)
  unfolding move_total
  total_cut action =
      ap (λ (p : Planned). p.count) (plan_is t (own_of t) (counts_of t lay action) m action (root_of t lay) lawful (root_stands m lawful t rest e) (told m lawful t rest e action))

  -- up to 512 the sum is exact
  few_are : (n a s : ℕ) → s + count_from m a n ≤ max_edges → moves_of t lay (own_of t) a n s ≡ s + count_from m a n
  unfolding moves_of sum count_up
  few_are zero a s h = omega arith
  few_are (suc n) a s h =
      let c = move_count m a m.tree in
      let one : move_total t lay (own_of t) a ≡ c = total_cut a ∙ sym (cap_small c (omega arith)) in
      let next : capped (s + move_total t lay (own_of t) a) ≡ s + c = ap (λ x. capped (s + x)) one ∙ sym (capped_is (s + c) (omega arith)) in
      let all : s + c + count_from m (suc a) n ≡ s + (c + count_from m (suc a) n) = omega arith in
      ap₂ (λ x y. moves_of t lay (own_of t) x n y) (add-one a) next ∙ few_are n (suc a) (s + c) (omega arith) ∙ all

  -- and above it, it is above
  many_are : (n a s : ℕ) → max_edges < s + count_from m a n → max_edges < moves_of t lay (own_of t) a n s
  unfolding moves_of sum count_up
  many_are zero a s h = omega arith
  many_are (suc n) a s h = go (dec_lt max_edges c) (dec_lt max_edges (s + move_total t lay (own_of t) a)) (λ x l. many_are n (suc a) x l)
    where
      c : ℕ
      c = move_count m a m.tree

      go : Dec (max_edges < c) → Dec (max_edges < s + move_total t lay (own_of t) a) → ((x : ℕ) → max_edges < x + count_from m (suc a) n → max_edges < moves_of t lay (own_of t) (suc a) n x)
          → max_edges < moves_of t lay (own_of t) (a + 1) n (capped (s + move_total t lay (own_of t) a))
      go p (yes q) ih = let k = capped_large (s + move_total t lay (own_of t) a) q in rw (add-one a) (ih (capped (s + move_total t lay (own_of t) a)) (omega arith))
      go (yes p) (no q) ih = let k = total_cut a in let l = cap_large c p in absurd (omega arith)
      go (no p) (no q) ih =
          let k = total_cut a in
          let l = cap_small c (omega arith) in
          let i = capped_is (s + move_total t lay (own_of t) a) (omega arith) in
          rw (add-one a) (ih (capped (s + move_total t lay (own_of t) a)) (omega arith))

  abbrev counted : ℕ
  counted = moves_in t lay (own_of t)

  counted_is : counted ≡ moves_of t lay (own_of t) 0 (m.actions + 1) 0
  unfolding moves_in
  counted_is = ap (λ a. moves_of t lay (own_of t) 0 (a + 1) 0) (last_is m lawful t rest e)

  whole_count : count_from m 0 (m.actions + 1) ≡ count_with_repeats m
  unfolding count_with_repeats
  whole_count = ap (count_from m 0) (add-one m.actions)

  exact : count_with_repeats m ≤ max_edges → counted ≡ count_with_repeats m
  exact h = counted_is ∙ few_are (m.actions + 1) 0 0 (omega (arith, whole_count)) ∙ zero-add (count_from m 0 (m.actions + 1)) ∙ whole_count

  pub count_row : ltb max_edges (moves_in t (layout_of t) (own_of t)) ≡ row32_with_repeats m
  unfolding row32_with_repeats
  count_row = go (dec_lt max_edges (count_with_repeats m))
    where
      go : Dec (max_edges < count_with_repeats m) → ltb max_edges counted ≡ ltb max_edges (count_with_repeats m)
      go (yes h) = ap (ltb max_edges) counted_is ∙ lt-ltb max_edges _ (many_are (m.actions + 1) 0 0 (omega (arith, whole_count))) ∙ sym (lt-ltb max_edges (count_with_repeats m) h)
      go (no h) = ap (ltb max_edges) (exact (omega arith))

  pub count_exact : row32_with_repeats m ≡ false → moves_in t (layout_of t) (own_of t) ≡ count_with_repeats m
  unfolding row32_with_repeats
  count_exact h = exact (ltb-false max_edges (count_with_repeats m) h)

  pub counts_few : row32_with_repeats m ≡ false → (a : ℕ) → a ≤ m.actions → move_count m a m.tree ≤ max_edges
  unfolding row32_with_repeats
  counts_few h a l =
      let all = ltb-false max_edges (count_with_repeats m) h in
      let one = one_of m (m.actions + 1) 0 a (omega arith) (omega arith) in
      omega (arith, whole_count)

  pub variables_row : ltb max_variables (pointer_of (layout_of t).variables (layout_of t).automata) ≡ row31 m
  unfolding row31
  variables_row =
      let v = lawful.few_variables in
      let n = lawful.few_automata in
      ap (ltb max_variables)
      (ap₂ pointer_of (laid_variables m lawful t rest e) (laid_automata m lawful t rest e) ∙ pointer_sum (length m.variables) (length m.automata) (omega arith) (omega arith))
