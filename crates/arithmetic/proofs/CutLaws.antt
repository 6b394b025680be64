-- What an i64 holds of a number: the cut, which is what the library's saturating steps stop at.
use mathlib.Core.Path.{◌≡◌, refl, sym, ap, ◌∙◌}
use mathlib.Core.Bool.{Bool, true, false, cond, true≢false}
use Prim.Native.Nat.{suc, ◌+◌, min}
use native.Mathlib.Omega.{arith}
use borrow.Author.Tests.{ltb-true, le-ltb, leb-true, leb-false}
use lib.Dec.{leb}
use lib.IntN.{ℤ, pos, negsuc, nat_abs, ◌-ℤ◌}
use lib.Signed.{lt_z, le_z}
use Rattle.std.specs.Int.{saturate_signed}
use mir.Syntax.{w64}
use mir.Val.{SFits}
use Rattle.model.specs.Bounds.{least_value, greatest_value}
use Rattle.model.specs.Predicate.{least, greatest}
use Rattle.arithmetic.specs.Cut.{least_held, greatest_held, cut}
use Rattle.arithmetic.proofs.Order.{Le, Le-antisym, le_z_Le, not_le_z_Le, Le-leZ, lt_z_lt, not_lt_z, le_lt_z}

-- in range: between the ends
pub held : (z : ℤ) → Le least_held z → Le z greatest_held → SFits w64 z
held (pos n) l h = record { sfits = omega arith }
held (negsuc n) l h = record { sfits = omega arith }

pub above_least : (z : ℤ) → SFits w64 z → Le least_held z
above_least (pos n) f = omega arith
above_least (negsuc n) f = omega (arith, f.sfits)

pub below_greatest : (z : ℤ) → SFits w64 z → Le z greatest_held
below_greatest (pos n) f = omega (arith, f.sfits)
below_greatest (negsuc n) f = omega arith

-- the three cases of a cut
pub cut_low : (x : ℤ) → Le x least_held → least_held ≡ cut x
unfolding cut
cut_low x h = by (lt_z x least_held) refl
  where
    by : (t : Bool) → lt_z x least_held ≡ t → least_held ≡ cond t least_held (cond (lt_z greatest_held x) greatest_held x)
    by true e = refl
    by false e = let same = Le-antisym least_held x (not_lt_z x least_held e) h in rw (← same)

pub cut_high : (x : ℤ) → Le greatest_held x → greatest_held ≡ cut x
unfolding cut
cut_high x h = rw (le_lt_z x least_held (omega arith)) (by (lt_z greatest_held x) refl)
  where
    by : (t : Bool) → lt_z greatest_held x ≡ t → greatest_held ≡ cond t greatest_held x
    by true e = refl
    by false e = Le-antisym greatest_held x h (not_lt_z greatest_held x e)

pub cut_fits : (x : ℤ) → SFits w64 x → cut x ≡ x
unfolding cut
cut_fits x f = rw (le_lt_z x least_held (above_least x f), le_lt_z greatest_held x (below_greatest x f))

-- what the library's saturating steps stop at is the cut
pub saturated : (x : ℤ) → saturate_signed w64 x ≡ cut x
saturated (pos n) = by (leb n 9223372036854775807) refl
  where
    by : (t : Bool) → leb n 9223372036854775807 ≡ t → pos (min n 9223372036854775807) ≡ cut (pos n)
    by true e =
        let l = leb-true n 9223372036854775807 e in
        ap pos (omega arith) ∙ sym (cut_fits (pos n) (record { sfits = omega arith }))
    by false e =
        let l = leb-false n 9223372036854775807 e in
        ap pos (omega arith) ∙ cut_high (pos n) (omega arith)
saturated (negsuc n) = by (leb n 9223372036854775807) refl
  where
    by : (t : Bool) → leb n 9223372036854775807 ≡ t → negsuc (min n 9223372036854775807) ≡ cut (negsuc n)
    by true e =
        let l = leb-true n 9223372036854775807 e in
        ap negsuc (omega arith) ∙ sym (cut_fits (negsuc n) (record { sfits = omega arith }))
    by false e =
        let l = leb-false n 9223372036854775807 e in
        ap negsuc (omega arith) ∙ cut_low (negsuc n) (omega arith)

-- a cut keeps the order, so it goes with the lesser and the greater of two numbers
cut_mono : (a b : ℤ) → Le a b → Le (cut a) (cut b)
unfolding cut
cut_mono a b h = by (lt_z a least_held) refl (lt_z greatest_held a) refl (lt_z b least_held) refl (lt_z greatest_held b) refl
  where
    by : (s : Bool) → lt_z a least_held ≡ s → (t : Bool) → lt_z greatest_held a ≡ t → (u : Bool) → lt_z b least_held ≡ u → (v : Bool) → lt_z greatest_held b ≡ v → Le (cut a) (cut b)
    by true e t f true g v k = rw (e, g) (omega arith)
    by true e t f false g true k = rw (e, g, k) (omega arith)
    by true e t f false g false k = rw (e, g, k) (not_lt_z b least_held g)
    by false e t f true g v k = absurd (omega (arith, not_lt_z a least_held e, lt_z_lt b least_held g))
    by false e true f false g true k = rw (e, f, g, k) (omega arith)
    by false e true f false g false k = absurd (omega (arith, lt_z_lt greatest_held a f, not_lt_z greatest_held b k))
    by false e false f false g true k = rw (e, f, g, k) (not_lt_z greatest_held a f)
    by false e false f false g false k = rw (e, f, g, k) h

pub cut_least : (a b : ℤ) → cut (least a b) ≡ least (cut a) (cut b)
unfolding least
cut_least a b = by (le_z a b) refl (le_z (cut a) (cut b)) refl
  where
    by : (s : Bool) → le_z a b ≡ s → (t : Bool) → le_z (cut a) (cut b) ≡ t → cut (cond s a b) ≡ cond t (cut a) (cut b)
    by true e true f = refl
    by true e false f = absurd (true≢false (sym (Le-leZ (cut a) (cut b) (cut_mono a b (le_z_Le a b e))) ∙ f))
    by false e true f = Le-antisym (cut b) (cut a) (cut_mono b a (not_le_z_Le a b e)) (le_z_Le (cut a) (cut b) f)
    by false e false f = refl

pub cut_greatest : (a b : ℤ) → cut (greatest a b) ≡ greatest (cut a) (cut b)
unfolding greatest
cut_greatest a b = by (le_z a b) refl (le_z (cut a) (cut b)) refl
  where
    by : (s : Bool) → le_z a b ≡ s → (t : Bool) → le_z (cut a) (cut b) ≡ t → cut (cond s b a) ≡ cond t (cut b) (cut a)
    by true e true f = refl
    by true e false f = absurd (true≢false (sym (Le-leZ (cut a) (cut b) (cut_mono a b (le_z_Le a b e))) ∙ f))
    by false e true f = Le-antisym (cut a) (cut b) (le_z_Le (cut a) (cut b) f) (cut_mono b a (not_le_z_Le a b e))
    by false e false f = refl

-- what is cut fits, so a second cut changes nothing
pub cut_held : (x : ℤ) → SFits w64 (cut x)
unfolding cut
cut_held x = by (lt_z x least_held) refl (lt_z greatest_held x) refl
  where
    by : (s : Bool) → lt_z x least_held ≡ s → (t : Bool) → lt_z greatest_held x ≡ t → SFits w64 (cut x)
    by true e t f = rw e (record { sfits = omega arith })
    by false e true f = rw (e, f) (record { sfits = omega arith })
    by false e false f = rw (e, f) (held x (not_lt_z x least_held e) (not_lt_z greatest_held x f))

pub cut_again : (x : ℤ) → cut (cut x) ≡ cut x
cut_again x = cut_fits (cut x) (cut_held x)

-- the span of row 10 lies inside the range, so a cut changes no test of it
le_z_same : (a b c d : ℤ) → (Le a b → Le c d) → (Le c d → Le a b) → le_z a b ≡ le_z c d
le_z_same a b c d to from = by (le_z a b) refl (le_z c d) refl
  where
    by : (s : Bool) → le_z a b ≡ s → (t : Bool) → le_z c d ≡ t → le_z a b ≡ le_z c d
    by true e t f = e ∙ sym (Le-leZ c d (to (le_z_Le a b e)))
    by false e true f = absurd (true≢false (sym (Le-leZ a b (from (le_z_Le c d f))) ∙ e))
    by false e false f = e ∙ sym f

pub least_cut : (x : ℤ) → le_z least_value (cut x) ≡ le_z least_value x
unfolding cut
least_cut x = by (lt_z x least_held) refl (lt_z greatest_held x) refl
  where
    by : (s : Bool) → lt_z x least_held ≡ s → (t : Bool) → lt_z greatest_held x ≡ t → le_z least_value (cut x) ≡ le_z least_value x
    by true e t f = rw e (le_z_same least_value least_held least_value x (λ h. absurd (omega arith)) (λ h. absurd (omega (arith, lt_z_lt x least_held e))))
    by false e true f = rw (e, f) (sym (Le-leZ least_value x (omega (arith, lt_z_lt greatest_held x f))))
    by false e false f = rw (e, f)

pub greatest_cut : (x : ℤ) → le_z (cut x) greatest_value ≡ le_z x greatest_value
unfolding cut
greatest_cut x = by (lt_z x least_held) refl (lt_z greatest_held x) refl
  where
    by : (s : Bool) → lt_z x least_held ≡ s → (t : Bool) → lt_z greatest_held x ≡ t → le_z (cut x) greatest_value ≡ le_z x greatest_value
    by true e t f = rw e (sym (Le-leZ x greatest_value (omega (arith, lt_z_lt x least_held e))))
    by false e true f = rw (e, f) (le_z_same greatest_held greatest_value x greatest_value (λ h. absurd (omega arith)) (λ h. absurd (omega (arith, lt_z_lt greatest_held x f))))
    by false e false f = rw (e, f)

-- of a number below 0: -1 less the number is its magnitude less one
pub beyond_is : (a : ℤ) → lt_z a (pos 0) ≡ true → nat_abs (negsuc 0 -ℤ a) + 1 ≡ nat_abs a
beyond_is (pos n) h = let low = ltb-true n 0 h in absurd (omega arith)
beyond_is (negsuc n) h =
    let less : negsuc 0 -ℤ negsuc n ≡ pos n = rw (le-ltb (suc n) 1 (omega arith)) (ap pos (omega arith)) in
    rw less (omega arith)
