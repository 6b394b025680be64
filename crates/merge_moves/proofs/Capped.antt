-- Sums and products of capped counts, capped again, are the capped sums and products; and a cell is read back.
use mathlib.Core.Path.{◌≡◌, sym, ap, ap₂, ◌∙◌}
use mathlib.Core.Bool.{Bool, true, false}
use Prim.Native.Nat.{ℕ, zero, suc, ◌+◌, ◌*◌, ◌/◌, ◌%◌, ◌≤◌, ◌<◌}
use native.Mathlib.Omega.{arith}
use native.Mathlib.Nat.{mul-zero, zero-mul, mul-le-mul}
use native.Mathlib.Decide.{dec_lt}
use lib.Dec.{eqb}
use Rattle.model.specs.Moves.{sides_count}
use Rattle.merge_moves.specs.Capping.{capped, cell_of, inside_of}
use Rattle.merge_moves.proofs.CappingLaws.{cap_small, cap_large}

-- two counts above 512 are one
large_same : (x y : ℕ) → 512 < x → 512 < y → capped x ≡ capped y
large_same x y h l = sym (cap_large x h) ∙ cap_large y l

-- what capping keeps
pub cap_of_large : (x : ℕ) → 512 < x → 513 ≤ capped x
cap_of_large x h = omega (arith, cap_large x h)

pub cap_some : (x : ℕ) → 1 ≤ x → 1 ≤ capped x
cap_some x h = go (dec_lt 512 x)
  where
    go : Dec (512 < x) → 1 ≤ capped x
    go (yes l) = omega (arith, cap_large x l)
    go (no l) = omega (arith, cap_small x (omega arith))

pub cap_twice : (x : ℕ) → capped (capped x) ≡ capped x
cap_twice x = go (dec_lt 512 x)
  where
    go : Dec (512 < x) → capped (capped x) ≡ capped x
    go (yes l) = large_same (capped x) x (omega (arith, cap_large x l)) l
    go (no l) = ap capped (sym (cap_small x (omega arith)))

cap_sum : (x y : ℕ) → capped (capped x + capped y) ≡ capped (x + y)
cap_sum x y = go (dec_lt 512 x) (dec_lt 512 y)
  where
    go : Dec (512 < x) → Dec (512 < y) → capped (capped x + capped y) ≡ capped (x + y)
    go (yes l) q = large_same (capped x + capped y) (x + y) (omega (arith, cap_of_large x l)) (omega arith)
    go (no l) (yes q) = large_same (capped x + capped y) (x + y) (omega (arith, cap_of_large y q)) (omega arith)
    go (no l) (no q) = ap₂ (λ a b. capped (a + b)) (sym (cap_small x (omega arith))) (sym (cap_small y (omega arith)))

-- a factor above 512 makes the product so, unless the other is 0
large_left : (x y : ℕ) → 512 < x → capped (capped x * capped y) ≡ capped (x * y)
unfolding capped
large_left x zero l = ap capped (mul-zero (capped x) ∙ sym (mul-zero x))
large_left x (suc y) l =
    let u : 513 * 1 ≤ capped x * capped (suc y) = mul-le-mul (cap_of_large x l) (cap_some (suc y) (omega arith)) in
    let one : 1 ≤ suc y = omega arith in
    let v : 513 * 1 ≤ x * suc y = mul-le-mul l one in
    large_same (capped x * capped (suc y)) (x * suc y) (omega arith) (omega arith)

large_right : (x y : ℕ) → 512 < y → capped (capped x * capped y) ≡ capped (x * y)
unfolding capped
large_right zero y l = ap capped (zero-mul (capped y) ∙ sym (zero-mul y))
large_right (suc x) y l =
    let u : 1 * 513 ≤ capped (suc x) * capped y = mul-le-mul (cap_some (suc x) (omega arith)) (cap_of_large y l) in
    let one : 1 ≤ suc x = omega arith in
    let v : 1 * 513 ≤ suc x * y = mul-le-mul one l in
    large_same (capped (suc x) * capped y) (suc x * y) (omega arith) (omega arith)

cap_product : (x y : ℕ) → capped (capped x * capped y) ≡ capped (x * y)
cap_product x y = go (dec_lt 512 x) (dec_lt 512 y)
  where
    go : Dec (512 < x) → Dec (512 < y) → capped (capped x * capped y) ≡ capped (x * y)
    go (yes l) q = large_left x y l
    go (no l) (yes q) = large_right x y q
    go (no l) (no q) = ap₂ (λ a b. capped (a * b)) (sym (cap_small x (omega arith))) (sym (cap_small y (omega arith)))

-- the count of a `par` from capped counts
pub cap_sides : (b e : Bool) (x y : ℕ) → capped (sides_count b e (capped x) (capped y)) ≡ capped (sides_count b e x y)
unfolding sides_count
cap_sides true true x y = cap_product x y
cap_sides true false x y = cap_twice x
cap_sides false true x y = cap_twice y
cap_sides false false x y = cap_sum x y

-- a cell's count and its membership
pub cell_count : (b : Bool) (x : ℕ) → cell_of b x / 2 ≡ capped x
unfolding cell_of
cell_count true x = omega arith
cell_count false x = omega arith

pub cell_inside : (b : Bool) (x : ℕ) → inside_of (cell_of b x) ≡ b
unfolding cell_of inside_of
cell_inside true x =
    let z : (capped x * 2 + 1) % 2 ≡ 1 = omega arith in
    ap (λ n. eqb n 1) z
cell_inside false x =
    let z : capped x * 2 % 2 ≡ 0 = omega arith in
    ap (λ n. eqb n 1) z

pub cell_again : (b : Bool) (x : ℕ) → cell_of b (capped x) ≡ cell_of b x
unfolding cell_of
cell_again true x = ap (λ n. n * 2 + 1) (cap_twice x)
cell_again false x = ap (λ n. n * 2) (cap_twice x)
