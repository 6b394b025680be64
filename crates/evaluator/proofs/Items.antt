-- Items of lists, by their numbers.
use mathlib.Core.Path.{refl}
use mathlib.Core.List.{List, [], ◌∷◌, Memᴰ}
use Prim.Native.Nat.{ℕ, zero, suc, ◌<◌}
use native.Mathlib.Omega.{arith}
use lib.ListN.{length, get_or}

module _ {A : Type 0} where
  pub item_in : (l : List A) (k : ℕ) (d : A) → k < length l → Memᴰ (get_or l k d) l
  item_in [] k d h = absurd (omega arith)
  item_in (x ∷ l) zero d h = Memᴰ.head refl
  item_in (x ∷ l) (suc k) d h = Memᴰ.tail (item_in l k d (omega arith))
