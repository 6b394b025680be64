-- Each way out of the code of src/capping.rt; and what capping leaves of a count.
use mathlib.Core.Path.{◌≡◌, refl, ◌∙◌}
use mathlib.Core.Bool.{Bool, true, false}
use Prim.Native.Nat.{ℕ, ◌+◌, ◌*◌, ◌≤◌, ◌<◌, min}
use Rattle.std.proofs.Common.{inl, inr}
use Rattle.std.proofs.lemmas.Bool.{cases_lt}
use native.Mathlib.Omega.{arith}
use native.Mathlib.Nat.{mul-le-mul}
use mir.Syntax.{w32}
use mir.Val.{Fits, bool_byte}
use lib.Dec.{leb}
use borrow.Author.Tests.{le-leb, lt-leb, leb-true}
use Rattle.model.specs.Moves.{sides_count}
use Rattle.merge_moves.specs.Capping.{capped, cell_of}

pub cap_small : (x : ℕ) → x ≤ 512 → x ≡ capped x
unfolding capped
cap_small x h = rw (le-leb x 512 h, capped)

pub cap_large : (x : ℕ) → 512 < x → 513 ≡ capped x
unfolding capped
cap_large x h = rw (lt-leb x 512 h, capped)

pub cap_bound : (x : ℕ) → capped x ≤ 513
unfolding capped
cap_bound x = go (leb x 512) refl
  where
    go : (b : Bool) → leb x 512 ≡ b → elim b as (λ c. ℕ) [ true ↦ x | false ↦ 513 ] ≤ 513
    go true e = omega (arith, leb-true x 512 e)
    go false e = omega arith

pub capped_is : (x r : ℕ) → r ≡ min x 513 → r ≡ capped x
capped_is x r e =
    elim (cases_lt 512 x) [
      | inl h ↦ let z : r ≡ 513 = omega arith in z ∙ cap_large x h
      | inr h ↦ let z : r ≡ x = omega arith in z ∙ cap_small x h
    ]

-- `sides_count`
pub product_fits : (left right x y : ℕ) → x ≡ capped left → y ≡ capped right → Fits w32 (x * y)
product_fits left right x y hx hy =
    let a : x ≤ 513 = rw hx (cap_bound left) in
    let b : y ≤ 513 = rw hy (cap_bound right) in
    let p : x * y ≤ 513 * 513 = mul-le-mul a b in
    record { fits = omega arith }

module _ (b e : Bool) (left right x y r : ℕ) (hx : x ≡ capped left) (hy : y ≡ capped right) where
  pub sides_product : b ≡ true → e ≡ true → r ≡ capped (x * y)
      → r ≡ capped (sides_count b e (capped left) (capped right))
  unfolding sides_count
  sides_product i j hr = rw (i, j, ← hx, ← hy) hr

  pub sides_left : b ≡ true → e ≡ false → r ≡ capped x → r ≡ capped (sides_count b e (capped left) (capped right))
  unfolding sides_count
  sides_left i j hr = rw (i, j, ← hx) hr

  pub sides_right : b ≡ false → e ≡ true → r ≡ capped y → r ≡ capped (sides_count b e (capped left) (capped right))
  unfolding sides_count
  sides_right i j hr = rw (i, j, ← hy) hr

  pub sides_sum : b ≡ false → e ≡ false → r ≡ capped (x + y)
      → r ≡ capped (sides_count b e (capped left) (capped right))
  unfolding sides_count
  sides_sum i j hr = rw (i, j, ← hx, ← hy) hr

-- `cell`
pub cell_is : (inside : Bool) (count x v : ℕ) → x ≡ capped count → v ≡ bool_byte inside
    → x * 2 + v ≡ cell_of inside count
unfolding cell_of
cell_is true count x v hx e = rw (hx, e)
cell_is false count x v hx e = let z : x * 2 + v ≡ x * 2 = omega arith in rw (z, hx)

-- what the equations in src/capping.rt need
pub ruleset capping_laws = (product_fits, capped_is, sides_product, sides_left, sides_right, sides_sum, cell_is)
