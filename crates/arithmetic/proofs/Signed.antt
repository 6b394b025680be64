-- Signed numbers: what stays in range, and how a test on bits reads as one on numbers.
use mathlib.Core.Path.{◌≡◌, refl, sym, ◌∙◌}
use mathlib.Core.Bool.{Bool, true, false, cond}
use Prim.Native.Nat.{ℕ, suc, ◌-◌, ◌^◌, ◌≤◌, ◌<◌}
use native.Mathlib.Omega.{arith}
use borrow.Author.Tests.{leb-true, leb-false, le-ltb, lt-ltb, ne_eqb, eqb-true, eqb-false}
use lib.Dec.{ltb, leb, eqb}
use lib.IntN.{ℤ, pos, negsuc, sub_ℕ, ◌-ℤ◌}
use lib.Signed.{mag}
use mir.Syntax.{w32, w64}
use mir.Val.{Fits, SFits, to_z, of_z}
use mir.ValLaws.{to_z-of_z, to_z_pos}
use mir.Facts.{sfits_widen}
use Rattle.model.specs.Basic.{eq_z}
use Rattle.model.specs.Bounds.{bias}
use Rattle.model.specs.Table.{unbiased}

pub wider : {z : ℤ} → SFits w32 z → SFits w64 z
wider h = sfits_widen tt h

-- an i32 that went to an i64 by its bits is the same number
pub widened : (z : ℤ) → SFits w32 z → to_z w64 (of_z w64 (to_z w32 (of_z w32 z))) ≡ z
widened z f = rw (to_z-of_z w32 z f) (to_z-of_z w64 z (wider f))

-- two tests for equality that agree
eqb_same : (m n p q : ℕ) → (m ≡ n → p ≡ q) → (p ≡ q → m ≡ n) → eqb m n ≡ eqb p q
eqb_same m n p q to from = go (eqb m n) refl (eqb p q) refl
  where
    go : (s : Bool) → eqb m n ≡ s → (t : Bool) → eqb p q ≡ t → eqb m n ≡ eqb p q
    go true e true f = e ∙ sym f
    go true e false f = absurd (eqb-false p q f (to (eqb-true m n e)))
    go false e true f = absurd (eqb-false m n e (from (eqb-true p q f)))
    go false e false f = e ∙ sym f

pub eq_bits : (a b : ℤ) → SFits w64 a → SFits w64 b → eqb (of_z w64 a) (of_z w64 b) ≡ eq_z a b
unfolding eq_z
eq_bits (pos a) (pos b) fa fb = refl
eq_bits (pos a) (negsuc b) fa fb = ne_eqb a (2 ^ 64 - suc b) (omega (arith, fa.sfits, fb.sfits))
eq_bits (negsuc a) (pos b) fa fb = ne_eqb (2 ^ 64 - suc a) b (omega (arith, fa.sfits, fb.sfits))
eq_bits (negsuc a) (negsuc b) fa fb = eqb_same (2 ^ 64 - suc a) (2 ^ 64 - suc b) a b (omega (arith, fa.sfits, fb.sfits)) (omega (arith, fa.sfits, fb.sfits))

-- the bias of the table: taken off an argument, and back again
pub less_bias : (n : ℕ) → sub_ℕ n bias ≡ unbiased n
unfolding unbiased
less_bias n = go (leb bias n) refl
  where
    go : (t : Bool) → leb bias n ≡ t → sub_ℕ n bias ≡ elim t [ true ↦ pos (n - bias) | false ↦ negsuc (bias - suc n) ]
    go true e = rw (le-ltb n bias (leb-true bias n e))
    go false e = rw (lt-ltb n bias (leb-false bias n e))

pub half : {n : ℕ} → Fits w32 n → n < 2 ^ 63
half f = omega (arith, f.fits)

-- the difference fits, and reads back
mag_sub : (a b n : ℕ) → a ≤ n → b ≤ n → mag (sub_ℕ a b) ≤ n
mag_sub a b n ha hb = go (ltb a b)
  where
    go : (t : Bool) → mag (cond t (negsuc (b - suc a)) (pos (a - b))) ≤ n
    go true = omega arith
    go false = omega arith

less_fits : (a b : ℕ) → a < 2 ^ 63 → b < 2 ^ 63 → SFits w64 (sub_ℕ a b)
less_fits a b ha hb = record { sfits = omega (arith, mag_sub a b (2 ^ 63 - 1) (omega arith) (omega arith)) }

pub read_argument : {n : ℕ} → Fits w32 n → to_z w64 (of_z w64 (to_z w64 n -ℤ pos bias)) ≡ unbiased n
read_argument {n} f = rw (to_z_pos w64 n (half f)) (to_z-of_z w64 _ (less_fits n bias (half f) (omega arith)) ∙ less_bias n)
