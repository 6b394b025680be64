-- The highest action of a list.
use Prim.Native.Nat.{ℕ, ◌≤◌}
use mathlib.Core.Path.{◌≡◌, refl, sym, ◌∙◌}
use mathlib.Core.Bool.{Bool, true, false, cond}
use mathlib.Core.List.{List, [], ◌∷◌}
use native.Mathlib.Omega.{arith}
use borrow.Author.Tests.{le-leb, leb-true, ltb-true, ltb-false}
use lib.Dec.{leb, ltb}
use Rattle.model.specs.Basic.{every}
use Rattle.model.specs.Bounds.{max_actions}
use Rattle.model.specs.Limits.{rises}
use Rattle.model.proofs.Tests.{and_left, and_right}
use Rattle.model.proofs.Bits.{rises_cons}
use Rattle.line_order.specs.Counts.{capped}

-- The highest action that a set may hold, and 63: up to there the two bounds ask the same.
module _ (A : ℕ) where
  pub capped_few : capped A ≤ max_actions
  unfolding capped
  capped_few = go (ltb A max_actions) refl
    where
      go : (b : Bool) → ltb A max_actions ≡ b → cond b A max_actions ≤ max_actions
      go true e = let l = ltb-true A max_actions e in omega arith
      go false e = omega arith

  capped_same : (k : ℕ) → k ≤ max_actions → leb k (capped A) ≡ leb k A
  unfolding capped
  capped_same k l = go (ltb A max_actions) refl
    where
      go : (b : Bool) → ltb A max_actions ≡ b → leb k (cond b A max_actions) ≡ leb k A
      go true e = refl
      go false e = let g = ltb-false A max_actions e in le-leb k max_actions l ∙ sym (le-leb k A (omega arith))

  pub rises_capped : (last : ℕ) (list : List ℕ) → every (λ k. leb k max_actions) list ≡ true → rises (capped A) last list ≡ rises A last list
  unfolding every
  rises_capped last [] h = unfold rises in refl
  rises_capped last (k ∷ ks) h =
      let l = leb-true k max_actions (and_left (leb k max_actions) (every (λ j. leb j max_actions) ks) h) in
      let later = rises_capped k ks (and_right (leb k max_actions) (every (λ j. leb j max_actions) ks) h) in
      rw (rises_cons (capped A) last k ks, rises_cons A last k ks, capped_same k l, later)
