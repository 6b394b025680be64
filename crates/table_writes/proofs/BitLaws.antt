-- Bits of numbers: what a bit that is set weighs, and one more above all others.
use mathlib.Core.Path.{◌≡◌, refl, sym, ap, ◌∙◌}
use mathlib.Core.Bool.{Bool, true, false, true≢false}
use Prim.Native.Nat.{ℕ, suc, ◌+◌, ◌-◌, ◌*◌, ◌/◌, ◌%◌, ◌^◌, ◌≤◌, ◌<◌}
use native.Mathlib.Omega.{arith}
use native.Mathlib.Nat.{div-eq_of_lt, one-mul, add_comm, add-mul-div_right, add-mul-mod_self_right}
use lib.Dec.{eqb, leb}
use lib.Pow.{pow_mono, pow_pos, pow-add, high}
use borrow.Author.Tests.{leb-true, leb-false}
use Rattle.model.specs.Table.{bit}

-- a bit that is set weighs no more than the word
pub bit_weighs : (s k : ℕ) → bit s k ≡ true → 2 ^ k ≤ s
unfolding bit
bit_weighs s k h = go (leb (2 ^ k) s) refl
  where
    go : (b : Bool) → leb (2 ^ k) s ≡ b → 2 ^ k ≤ s
    go true e = leb-true (2 ^ k) s e
    go false e =
        let l : s < 2 ^ k = leb-false (2 ^ k) s e in
        let z : false ≡ true = rw (div-eq_of_lt l) at h in
        absurd (true≢false (sym z))

-- so a word of 64 bits has none past them
pub bit_below : (s k : ℕ) → s < 2 ^ 64 → bit s k ≡ true → k < 64
bit_below s k f h = go (leb 64 k) refl
  where
    go : (b : Bool) → leb 64 k ≡ b → k < 64
    go true e =
        let l = leb-true 64 k e in
        let m : 2 ^ 64 ≤ 2 ^ k = pow_mono l in
        let w = bit_weighs s k h in
        absurd (omega arith)
    go false e = leb-false 64 k e

-- a number with one bit more, above all others
pub bit_under : (x n k : ℕ) → k < n → bit (2 ^ n + x) k ≡ bit x k
unfolding bit
bit_under x n k h =
    let y = 2 ^ (n - suc k) in
    let d : n ≡ (n - suc k) + 1 + k = omega arith in
    let p : 2 ^ n ≡ y * 2 * 2 ^ k = ap (λ e. 2 ^ e) d ∙ rw (pow-add 2 ((n - suc k) + 1) k, pow-add 2 (n - suc k) 1) in
    let q : (2 ^ n + x) / 2 ^ k ≡ x / 2 ^ k + y * 2 = ap (λ z. z / 2 ^ k) (add_comm (2 ^ n) x ∙ ap (λ z. x + z) p)
    ∙ add-mul-div_right x (y * 2) (pow_pos k) in
    ap (λ z. eqb (z % 2) 1) q ∙ ap (λ z. eqb z 1) (add-mul-mod_self_right (x / 2 ^ k) y 2)

pub bit_top : (x n : ℕ) → x < 2 ^ n → bit (2 ^ n + x) n ≡ true
unfolding bit
bit_top x n h = ap (λ z. eqb (z % 2) 1) (ap (λ z. (z + x) / 2 ^ n) (sym (one-mul (2 ^ n))) ∙ high 1 n h)
