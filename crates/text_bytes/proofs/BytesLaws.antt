-- Laws of the tests on bytes: the library's words for them are the definitions'.
use Prim.Native.Nat.{ℕ}
use mathlib.Core.Path.{◌≡◌, refl, ap}
use mathlib.Core.Bool.{Bool, true, false, ◌&&◌}
use mathlib.Core.List.{List, [], ◌∷◌}
use lib.Dec.{eqb}
use lib.Pointwise.{pointwise}
use Rattle.std.specs.List.{list_all, starts_with}
use Rattle.model.specs.Basic.{every, same}
use Rattle.format.specs.Bytes.{begins}

pub every_is : (f : ℕ → Bool) (s : List ℕ) → list_all f s ≡ every f s
unfolding every
every_is f [] = refl
every_is f (b ∷ t) = ap (λ (v : Bool). f b && v) (every_is f t)

pub same_is : (a b : List ℕ) → pointwise eqb a b ≡ same a b
unfolding same
same_is [] [] = refl
same_is [] (y ∷ b) = refl
same_is (x ∷ a) [] = refl
same_is (x ∷ a) (y ∷ b) = go (eqb x y) (same_is a b)
  where
    go : (v : Bool) → pointwise eqb a b ≡ same a b → (v && pointwise eqb a b) ≡ elim v [ true ↦ same a b | false ↦ false ]
    go true ih = ih
    go false ih = refl

pub begins_is : (key s : List ℕ) → starts_with eqb s key ≡ begins key s
unfolding begins
begins_is [] s = refl
begins_is (a ∷ key) [] = refl
begins_is (a ∷ key) (b ∷ s) = go (eqb a b) (begins_is key s)
  where
    go : (v : Bool) → starts_with eqb s key ≡ begins key s → (v && starts_with eqb s key) ≡ elim v [ true ↦ begins key s | false ↦ false ]
    go true ih = ih
    go false ih = refl
