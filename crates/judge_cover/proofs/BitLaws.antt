-- Bits of numbers: of `&`, of equal numbers, and how many are set.
use mathlib.Core.Path.{◌≡◌, refl, sym, ap, ◌∙◌}
use mathlib.Core.Bool.{Bool, true, false, ◌&&◌}
use Prim.Native.Nat.{ℕ, zero, suc, ◌+◌, ◌/◌, ◌%◌, ◌^◌, ◌≤◌, ◌<◌, min}
use native.Mathlib.Omega.{arith}
use native.Mathlib.Nat.{pow-succ', div-one, div-div-eq-div-mul}
use lib.Dec.{eqb}
use lib.Bits.{bit_and, and_step, and_shr, and_zero_l, and_comm as and-turned}
use lib.Count.{ones, ones_step}
use borrow.Author.Tests.{eqb-true, eqb-false}
use Rattle.model.specs.Table.{bit}
use Rattle.table_tree.proofs.SetLaws.{bit_above}

-- a bit of `&` is set where it is set in both
least_digit : (p q : ℕ) → p < 2 → q < 2 → eqb (min p q) 1 ≡ (eqb p 1 && eqb q 1)
least_digit zero q a b = go q b
  where
    go : (q : ℕ) → q < 2 → eqb (min 0 q) 1 ≡ (eqb 0 1 && eqb q 1)
    go zero h = refl
    go (suc zero) h = refl
    go (suc (suc q)) h = absurd (omega arith)
least_digit (suc zero) q a b = go q b
  where
    go : (q : ℕ) → q < 2 → eqb (min 1 q) 1 ≡ (eqb 1 1 && eqb q 1)
    go zero h = refl
    go (suc zero) h = refl
    go (suc (suc q)) h = absurd (omega arith)
least_digit (suc (suc p)) q a b = absurd (omega arith)

odd_and : (x y : ℕ) → eqb (bit_and x y % 2) 1 ≡ (eqb (x % 2) 1 && eqb (y % 2) 1)
odd_and x y =
    let e : bit_and x y % 2 ≡ min (x % 2) (y % 2) = omega (arith, and_step x y) in
    ap (λ n. eqb n 1) e ∙ least_digit (x % 2) (y % 2) (omega arith) (omega arith)

pub bit_and_lem : (a b k : ℕ) → bit (bit_and a b) k ≡ (bit a k && bit b k)
unfolding bit
bit_and_lem a b k = ap (λ n. eqb (n % 2) 1) (and_shr a b k) ∙ odd_and (a / 2 ^ k) (b / 2 ^ k)

-- numbers with the same bits are equal
pub bit_next : (a k : ℕ) → bit a (suc k) ≡ bit (a / 2) k
unfolding bit
bit_next a k = rw (pow-succ' 2 k, div-div-eq-div-mul)

pub bit_first : (a : ℕ) → bit a 0 ≡ eqb (a % 2) 1
unfolding bit
bit_first a = rw (div-one a)

same_digit : (a b : ℕ) → eqb (a % 2) 1 ≡ eqb (b % 2) 1 → a % 2 ≡ b % 2
same_digit a b h = go (eqb (b % 2) 1) refl
  where
    go : (c : Bool) → eqb (b % 2) 1 ≡ c → a % 2 ≡ b % 2
    go true e = let x = eqb-true (b % 2) 1 e in let y = eqb-true (a % 2) 1 (h ∙ e) in omega arith
    go false e = let x = eqb-false (b % 2) 1 e in let y = eqb-false (a % 2) 1 (h ∙ e) in omega arith

pub same_bits : (n a b : ℕ) → a < 2 ^ n → b < 2 ^ n → ((k : ℕ) → k < n → bit a k ≡ bit b k) → a ≡ b
same_bits zero a b x y h = omega arith
same_bits (suc n) a b x y h =
    let p = pow-succ' 2 n in
    let halves = same_bits n (a / 2) (b / 2) (omega arith) (omega arith) (λ k l. sym (bit_next a k) ∙ h (suc k) (omega arith) ∙ bit_next b k) in
    let ends = same_digit a b (sym (bit_first a) ∙ h 0 (omega arith) ∙ bit_first b) in
    omega arith

pub no_bits : (k : ℕ) → bit 0 k ≡ false
no_bits k = bit_above 0 0 k (omega arith) (omega arith)

-- `&` of three numbers
pub halves : (a b : ℕ) → (bit_and a b / 2 ≡ bit_and (a / 2) (b / 2)) × (bit_and a b % 2 ≡ min (a % 2) (b % 2))
halves a b = (omega (arith, and_step a b), omega (arith, and_step a b))

joined : (n a b c : ℕ) → a ≤ n → bit_and (bit_and a b) c ≡ bit_and a (bit_and b c)
joined zero a b c h =
    let z : a ≡ 0 = omega arith in
    rw (z, and_zero_l b, and_zero_l c, and_zero_l (bit_and b c))
joined (suc n) a b c h =
    let ih = joined n (a / 2) (b / 2) (c / 2) (omega arith) in
    let p = halves a b in
    let q = halves b c in
    and_step (bit_and a b) c ∙ rw (p.0, p.1, ih)
    (sym (and_step a (bit_and b c) ∙ rw (q.0, q.1) (omega arith)))

pub and_assoc : (a b c : ℕ) → bit_and (bit_and a b) c ≡ bit_and a (bit_and b c)
and_assoc a b c = joined a a b c (omega arith)

pub and_swap : (u r s : ℕ) → bit_and (bit_and u r) s ≡ bit_and (bit_and u s) r
and_swap u r s = and_assoc u r s ∙ ap (bit_and u) (and-turned r s) ∙ sym (and_assoc u s r)

-- What s takes off u is no less than what it takes off a part of u.
submodular : (n u r s : ℕ) → u ≤ n → ones (bit_and u r) + ones (bit_and u s) ≤ ones u + ones (bit_and (bit_and u r) s)
submodular zero u r s h =
    let z : u ≡ 0 = omega arith in
    rw (z, and_zero_l r, and_zero_l s) (omega arith)
submodular (suc n) u r s h =
    let ih = submodular n (u / 2) (r / 2) (s / 2) (omega arith) in
    let p = halves u r in
    let q = halves u s in
    let t = halves (bit_and u r) s in
    rw (ones_step (bit_and u r), ones_step (bit_and u s), ones_step u, ones_step (bit_and (bit_and u r) s), p.0, p.1, q.0, q.1, t.0, t.1, p.0, p.1) (omega arith)

pub parts_cover_less : (u r s : ℕ) → ones (bit_and u r) + ones (bit_and u s) ≤ ones u + ones (bit_and (bit_and u r) s)
parts_cover_less u r s = submodular u u r s (omega arith)
