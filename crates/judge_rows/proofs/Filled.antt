-- An array that is filled from a list.
use mathlib.Core.Path.{◌≡◌, refl, sym, ap, ◌∙◌}
use mathlib.Core.List.{List, [], ◌∷◌, ◌++◌, append-nil}
use Prim.Native.Nat.{ℕ, zero, suc, ◌+◌, ◌-◌, ◌≤◌, ◌<◌}
use native.Mathlib.Omega.{arith}
use lib.ListN.{length, get_or, take, drop, replicate, length-append, length-replicate}
use lib.Seq.{take_all, take_at, take-take, take-append-add, length-take-le, get_or-take}
use Rattle.std.proofs.lemmas.List.{take-append-le, take-replicate, drop-replicate}
use Rattle.judge_rows.specs.States.{filled}

module _ {A : Type 0} (n : ℕ) (other : A) (list : List A) where
  pub filled_length : length (filled n other list) ≡ n
  unfolding filled
  filled_length = length-take-le n (list ++ replicate n other) (omega (arith, length-append list (replicate n other), length-replicate {A = A} n other))

  -- a list that is not longer stands at the front
  pub filled_front : length list ≤ n → take (length list) (filled n other list) ≡ list
  unfolding filled
  filled_front h = take-take (length list) n (list ++ replicate n other) h ∙ take_at list (replicate n other) (length list) refl

  -- what is filled is not filled further
  pub filled_twice : filled n other (filled n other list) ≡ filled n other list
  filled_twice = unfold filled in take_at (take n (list ++ replicate n other)) (replicate n other) n (unfold filled in filled_length)

  pub filled_at : (k : ℕ) → k < n → get_or (filled n other list) k other ≡ get_or list k other
  unfolding filled
  filled_at k h = get_or-take n (list ++ replicate n other) k other h ∙ past list k
    where
      same : (j i : ℕ) → get_or (replicate j other) i other ≡ other
      same zero i = refl
      same (suc j) zero = refl
      same (suc j) (suc i) = same j i

      past : (l : List A) (i : ℕ) → get_or (l ++ replicate n other) i other ≡ get_or l i other
      past [] i = same n i
      past (x ∷ l) zero = refl
      past (x ∷ l) (suc i) = past l i

  -- the first items of the list, and behind them what an array of `other` has there
  pub filled_over : (k : ℕ) → k ≤ n → k ≤ length list → (k < n → k ≡ length list) → take k list ++ drop k (replicate n other) ≡ filled n other list
  unfolding filled
  filled_over k h i whole = go (n - k) refl
    where
      go : (d : ℕ) → n - k ≡ d → take k list ++ drop k (replicate n other) ≡ take n (list ++ replicate n other)
      go zero l =
          let e : k ≡ n = omega arith in
          let f : n ≤ length list = omega arith in
          let z : n - n ≡ 0 = omega arith in
          rw (e, drop-replicate n n other, z, append-nil, take-append-le n list (replicate n other) f)
      go (suc m) l =
          let e : k ≡ length list = whole (omega arith) in
          let f : n ≡ length list + (n - k) = omega arith in
          let d : n - k ≤ n = omega arith in
          let all : take k list ≡ list = take_all k list (omega arith) in
          ap (λ (p : List A). p ++ drop k (replicate n other)) all ∙
          ap (λ (p : List A). list ++ p) (drop-replicate k n other ∙ sym (take-replicate (n - k) n other d)) ∙
          sym (take-append-add list (replicate n other) (n - k)) ∙
          ap (λ (m : ℕ). take m (list ++ replicate n other)) (sym f)

-- so many of an array's items are within it
pub front_fits : {A : Type 0} (most : ℕ) (l : List A) (n : ℕ) → length l ≡ most → n ≤ most → n ≤ length l
front_fits most l n size h = rw size h

pub front_whole : {A : Type 0} (most : ℕ) (l : List A) (n : ℕ) → length l ≡ most → n ≤ most → n ≡ length (take n l)
front_whole most l n size h = sym (length-take-le n l (front_fits most l n size h))
