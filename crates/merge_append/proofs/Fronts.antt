-- A loop over the first n items of an array: its turns are those below n, at the array's own items.
use mathlib.Core.Path.{◌≡◌, ◌∙◌}
use mathlib.Core.List.{List}
use Prim.Native.Nat.{ℕ, ◌≤◌, ◌<◌}
use native.Mathlib.Omega.{arith}
use lib.ListN.{length, get_or, take}
use Rattle.std.proofs.lemmas.List.{get_or-take, length-take, length-take-le}

module _ (xs : List ℕ) (n i : ℕ) where
  pub front_below : i < length (take n xs) → i < n
  front_below h = omega (arith, length-take n xs)

  pub front_at : i < length (take n xs) → (x : ℕ) → x ≡ get_or (take n xs) i 0 → x ≡ get_or xs i 0
  front_at h x e = e ∙ get_or-take n xs i 0 (front_below h)

  pub front_end : n ≤ length xs → length (take n xs) ≤ i → n ≤ i
  front_end few h = omega (arith, length-take-le n xs few)

pub ruleset front_laws = (front_below, front_at, front_end)
