-- The order on ℤ by positive and negative parts, so that `omega` proves what is linear, and intervals.
use mathlib.Core.Path.{◌≡◌, refl, ap}
use mathlib.Core.Bool.{Bool, true, false, cond, ◌&&◌, true≢false, false≢true}
use Prim.Native.Nat.{ℕ, zero, suc, ◌+◌, ◌*◌, ◌-◌, ◌≤◌, ◌<◌}
use native.Mathlib.Omega.{arith}
use native.Mathlib.Nat.{mul-le-mul_right}
use borrow.Author.Tests.{ltb-true, ltb-false, le-ltb, leb-true, leb-false, le-leb}
use lib.Dec.{ltb}
use lib.IntN.{ℤ, pos, negsuc, neg_ℤ, sub_ℕ, ◌+ℤ◌, ◌-ℤ◌, ◌*ℤ◌, *ℤ_comm}
use lib.Signed.{le_z, lt_z}
use Rattle.std.specs.Int.{int_min, int_max}
use mir.Syntax.{w64}
use mir.Val.{SFits}
use Rattle.model.specs.Basic.{between}
use Rattle.model.specs.Bounds.{least_value, greatest_value}
use Rattle.model.specs.Predicate.{Range, range, least, greatest, hull, times}
use Rattle.model.proofs.Tests.{and_intro, and_left, and_right}

-- the positive and the negative part of a number, and the order by them: what `omega` reads
abbrev pub up : ℤ → ℕ
up (pos a) = a
up (negsuc a) = 0

abbrev pub down : ℤ → ℕ
down (pos a) = 0
down (negsuc a) = suc a

pub record Le (a b : ℤ) : Type 0 where
  pub le : up a + down b ≤ up b + down a

pub record Within (z : ℤ) (r : Range) : Type 0 where
  pub low : Le r.low z
  pub high : Le z r.high

-- a − b, by its parts
sub_bal : (a b : ℕ) → up (sub_ℕ a b) + b ≡ down (sub_ℕ a b) + a
sub_bal a b = go (ltb a b) refl
  where
    go : (t : Bool) → ltb a b ≡ t → up (cond t (negsuc (b - suc a)) (pos (a - b))) + b ≡ down (cond t (negsuc (b - suc a)) (pos (a - b))) + a
    go true e = omega (arith, ltb-true a b e)
    go false e = omega (arith, ltb-false a b e)

pub add_bal : (a b : ℤ) → up (a +ℤ b) + (down a + down b) ≡ down (a +ℤ b) + (up a + up b)
add_bal (pos a) (pos b) = omega arith
add_bal (pos a) (negsuc b) = omega (arith, sub_bal a (suc b))
add_bal (negsuc a) (pos b) = omega (arith, sub_bal b (suc a))
add_bal (negsuc a) (negsuc b) = omega arith

pub neg_up : (a : ℤ) → up (neg_ℤ a) ≡ down a
neg_up (pos zero) = refl
neg_up (pos (suc a)) = refl
neg_up (negsuc a) = refl

pub neg_down : (a : ℤ) → down (neg_ℤ a) ≡ up a
neg_down (pos zero) = refl
neg_down (pos (suc a)) = refl
neg_down (negsuc a) = refl

pub Le-refl : (a : ℤ) → Le a a
Le-refl a = omega arith

pub Le-trans : {a b c : ℤ} → Le a b → Le b c → Le a c
Le-trans h k = omega arith

pub Le-antisym : (a b : ℤ) → Le a b → Le b a → a ≡ b
Le-antisym (pos a) (pos b) h k = ap pos (omega arith)
Le-antisym (pos a) (negsuc b) h k = absurd (omega arith)
Le-antisym (negsuc a) (pos b) h k = absurd (omega arith)
Le-antisym (negsuc a) (negsuc b) h k = ap negsuc (omega arith)

pub add_mono : {a a' b b' : ℤ} → Le a a' → Le b b' → Le (a +ℤ b) (a' +ℤ b')
add_mono {a} {a'} {b} {b'} h k = omega (arith, add_bal a b, add_bal a' b')

pub sub_mono : {a a' b b' : ℤ} → Le a a' → Le b' b → Le (a -ℤ b) (a' -ℤ b')
sub_mono {a} {a'} {b} {b'} h k =
    omega (arith, add_bal a (neg_ℤ b), add_bal a' (neg_ℤ b'), neg_up b, neg_down b, neg_up b', neg_down b')

-- a test on two numbers, and the fact
pub le_z_Le : (a b : ℤ) → le_z a b ≡ true → Le a b
le_z_Le (pos a) (pos b) e = omega (arith, leb-true a b e)
le_z_Le (pos a) (negsuc b) e = absurd (false≢true e)
le_z_Le (negsuc a) (pos b) e = omega arith
le_z_Le (negsuc a) (negsuc b) e = omega (arith, leb-true b a e)

pub not_le_z_Le : (a b : ℤ) → le_z a b ≡ false → Le b a
not_le_z_Le (pos a) (pos b) e = omega (arith, leb-false a b e)
not_le_z_Le (pos a) (negsuc b) e = omega arith
not_le_z_Le (negsuc a) (pos b) e = absurd (true≢false e)
not_le_z_Le (negsuc a) (negsuc b) e = omega (arith, leb-false b a e)

pub Le-leZ : (a b : ℤ) → Le a b → le_z a b ≡ true
Le-leZ (pos a) (pos b) h = le-leb a b (omega arith)
Le-leZ (pos a) (negsuc b) h = absurd (omega arith)
Le-leZ (negsuc a) (pos b) h = refl
Le-leZ (negsuc a) (negsuc b) h = le-leb b a (omega arith)

-- the strict test, and the fact by the parts
pub lt_z_lt : (a b : ℤ) → lt_z a b ≡ true → up a + down b < up b + down a
lt_z_lt (pos a) (pos b) e = omega (arith, ltb-true a b e)
lt_z_lt (pos a) (negsuc b) e = absurd (false≢true e)
lt_z_lt (negsuc a) (pos b) e = omega arith
lt_z_lt (negsuc a) (negsuc b) e = omega (arith, ltb-true b a e)

pub not_lt_z : (a b : ℤ) → lt_z a b ≡ false → Le b a
not_lt_z (pos a) (pos b) e = omega (arith, ltb-false a b e)
not_lt_z (pos a) (negsuc b) e = omega arith
not_lt_z (negsuc a) (pos b) e = absurd (true≢false e)
not_lt_z (negsuc a) (negsuc b) e = omega (arith, ltb-false b a e)

pub le_lt_z : (a b : ℤ) → Le b a → lt_z a b ≡ false
le_lt_z (pos a) (pos b) h = le-ltb a b (omega arith)
le_lt_z (pos a) (negsuc b) h = refl
le_lt_z (negsuc a) (pos b) h = absurd (omega arith)
le_lt_z (negsuc a) (negsuc b) h = le-ltb b a (omega arith)

pub between_Within : (z : ℤ) (r : Range) → between r.low r.high z ≡ true → Within z r
unfolding between
between_Within z r e = record {
  low = le_z_Le r.low z (and_left _ _ e);
  high = le_z_Le z r.high (and_right (le_z r.low z) _ e);
}

pub Within-between : (z : ℤ) (r : Range) → Within z r → between r.low r.high z ≡ true
unfolding between
Within-between z r h = and_intro (Le-leZ r.low z h.low) (Le-leZ z r.high h.high)

-- a product grows with a factor where the other is not negative, and falls where it is
neg_pos : (m k : ℕ) → Le (neg_ℤ (pos m)) (pos k)
neg_pos m k = omega (arith, neg_up (pos m), neg_down (pos m))

neg_anti : (m k : ℕ) → m ≤ k → Le (neg_ℤ (pos k)) (neg_ℤ (pos m))
neg_anti m k h = omega (arith, neg_up (pos m), neg_down (pos m), neg_up (pos k), neg_down (pos k))

pub mul_mono : (a a' : ℤ) (n : ℕ) → Le a a' → Le (a *ℤ pos n) (a' *ℤ pos n)
mul_mono (pos x) (pos y) n h = omega (arith, mul-le-mul_right {m = x} {n = y} n (omega arith))
mul_mono (pos x) (negsuc y) n h = absurd (omega arith)
mul_mono (negsuc x) (pos y) n h = neg_pos (suc x * n) (y * n)
mul_mono (negsuc x) (negsuc y) n h = neg_anti (suc y * n) (suc x * n) (mul-le-mul_right n (omega arith))

pub mul_anti : (a a' : ℤ) (n : ℕ) → Le a a' → Le (a' *ℤ negsuc n) (a *ℤ negsuc n)
mul_anti (pos x) (pos y) n h = neg_anti (x * suc n) (y * suc n) (mul-le-mul_right (suc n) (omega arith))
mul_anti (pos x) (negsuc y) n h = absurd (omega arith)
mul_anti (negsuc x) (pos y) n h = neg_pos (y * suc n) (suc x * suc n)
mul_anti (negsuc x) (negsuc y) n h = omega (arith, mul-le-mul_right {m = suc y} {n = suc x} (suc n) (omega arith))

-- what the library's `min` and `max` answer
pub min_least : (a b : ℤ) → int_min a b ≡ least a b
unfolding least
min_least a b = by (lt_z b a) refl (le_z a b) refl
  where
    by : (s : Bool) → lt_z b a ≡ s → (t : Bool) → le_z a b ≡ t → cond s b a ≡ cond t a b
    by true e true f = absurd (omega (arith, lt_z_lt b a e, le_z_Le a b f))
    by true e false f = refl
    by false e true f = refl
    by false e false f = Le-antisym a b (not_lt_z b a e) (not_le_z_Le a b f)

pub max_greatest : (a b : ℤ) → int_max a b ≡ greatest a b
unfolding greatest
max_greatest a b = by (lt_z b a) refl (le_z a b) refl
  where
    by : (s : Bool) → lt_z b a ≡ s → (t : Bool) → le_z a b ≡ t → cond s a b ≡ cond t b a
    by true e true f = absurd (omega (arith, lt_z_lt b a e, le_z_Le a b f))
    by true e false f = refl
    by false e true f = refl
    by false e false f = Le-antisym b a (not_le_z_Le a b f) (not_lt_z b a e)

-- least and greatest
module _ (a b : ℤ) where
  pub least_both : Le (least a b) a × Le (least a b) b
  unfolding least
  least_both = go (le_z a b) refl
    where
      go : (t : Bool) → le_z a b ≡ t → Le (cond t a b) a × Le (cond t a b) b
      go true e = omega (arith, le_z_Le a b e)
      go false e = omega (arith, not_le_z_Le a b e)

  pub greatest_both : Le a (greatest a b) × Le b (greatest a b)
  unfolding greatest
  greatest_both = go (le_z a b) refl
    where
      go : (t : Bool) → le_z a b ≡ t → Le a (cond t b a) × Le b (cond t b a)
      go true e = omega (arith, le_z_Le a b e)
      go false e = omega (arith, not_le_z_Le a b e)

module _ (z a b : ℤ) where
  pub least_above : Le z a → Le z b → Le z (least a b)
  unfolding least
  least_above h k = go (le_z a b)
    where
      go : (t : Bool) → Le z (cond t a b)
      go true = h
      go false = k

  pub greatest_below : Le a z → Le b z → Le (greatest a b) z
  unfolding greatest
  greatest_below h k = go (le_z a b)
    where
      go : (t : Bool) → Le (cond t b a) z
      go true = k
      go false = h

-- a product with a fixed factor lies between the products with the ends
abbrev span : ℤ → ℤ → Range
span a b = record { low = least a b; high = greatest a b }

edge : (a x low high : ℤ) → Le low a → Le a high → Within (a *ℤ x) (span (low *ℤ x) (high *ℤ x))
edge a (pos n) low high h k =
    omega (arith, least_both (low *ℤ pos n) (high *ℤ pos n), greatest_both (low *ℤ pos n) (high *ℤ pos n), mul_mono low a n h, mul_mono a high n k)
edge a (negsuc n) low high h k =
    omega (arith, least_both (low *ℤ negsuc n) (high *ℤ negsuc n), greatest_both (low *ℤ negsuc n) (high *ℤ negsuc n), mul_anti low a n h, mul_anti a high n k)

edge' : (x b low high : ℤ) → Le low b → Le b high → Within (x *ℤ b) (span (x *ℤ low) (x *ℤ high))
edge' x b low high h k = rw (*ℤ_comm x b, *ℤ_comm x low, *ℤ_comm x high) (edge b x low high h k)

module _ (a b : ℤ) (r s : Range) (wa : Within a r) (wb : Within b s) where
  pub add_within : Within (a +ℤ b) (range (r.low +ℤ s.low) (r.high +ℤ s.high))
  unfolding range
  add_within = record { low = add_mono wa.low wb.low; high = add_mono wa.high wb.high }

  pub sub_within : Within (a -ℤ b) (range (r.low -ℤ s.high) (r.high -ℤ s.low))
  unfolding range
  sub_within = record { low = sub_mono wa.low wb.high; high = sub_mono wa.high wb.low }

  pub times_within : Within (a *ℤ b) (times r s)
  unfolding times hull range
  times_within =
      let e = edge a b r.low r.high wa.low wa.high in
      let f = edge' r.low b s.low s.high wb.low wb.high in
      let g = edge' r.high b s.low s.high wb.low wb.high in
      let l = least_both (least (r.low *ℤ s.low) (r.low *ℤ s.high)) (least (r.high *ℤ s.low) (r.high *ℤ s.high)) in
      let m = greatest_both (greatest (r.low *ℤ s.low) (r.low *ℤ s.high)) (greatest (r.high *ℤ s.low) (r.high *ℤ s.high)) in
      let low = least_above (times r s).low (r.low *ℤ b) (r.high *ℤ b) (omega arith) (omega arith) in
      let high = greatest_below (times r s).high (r.low *ℤ b) (r.high *ℤ b) (omega arith) (omega arith) in
      omega arith

  pub hull_first : Within a (hull r s)
  unfolding hull range
  hull_first = omega (arith, least_both r.low s.low, greatest_both r.high s.high)

  pub hull_next : Within b (hull r s)
  unfolding hull range
  hull_next = omega (arith, least_both r.low s.low, greatest_both r.high s.high)

  -- which of the two, a test says
  pub hull_either : (t : Bool) → Within (cond t a b) (hull r s)
  hull_either true = hull_first
  hull_either false = hull_next

-- a number within an interval that stays in the span of row 10 is in the span itself, and an i64 holds it
module _ (z : ℤ) (r : Range) (h : Within z r) (e : le_z least_value r.low && le_z r.high greatest_value ≡ true) where
  pub span_within : Within z (range least_value greatest_value)
  unfolding range
  span_within =
      let low = le_z_Le least_value r.low (and_left _ _ e) in
      let high = le_z_Le r.high greatest_value (and_right (le_z least_value r.low) _ e) in
      record { low = omega arith; high = omega arith }

  pub span_fits : SFits w64 z
  unfolding range
  span_fits = by z span_within.low span_within.high
    where
      by : (z : ℤ) → Le least_value z → Le z greatest_value → SFits w64 z
      by (pos n) l k = record { sfits = omega arith }
      by (negsuc n) l k = record { sfits = omega arith }
