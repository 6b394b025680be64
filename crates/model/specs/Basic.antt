-- Tests and list functions that the definitions share. Nothing here is about sheets.
use Rattle.std.specs.Prelude.{ℕ, zero, suc, ◌+◌, Bool, true, false, not, ◌&&◌, ◌||◌, List, [], ◌∷◌, ℤ, pos}
use Rattle.std.specs.Prelude.{negsuc, eqb}
use Rattle.std.proofs.Math.Option.{Option, none, some}
use Rattle.std.specs.Int.Signed.{le_z}

-- two integers are equal
unfoldable pub eq_z : ℤ → ℤ → Bool
eq_z (pos a) (pos b) = eqb a b
eq_z (pos a) (negsuc b) = false
eq_z (negsuc a) (pos b) = false
eq_z (negsuc a) (negsuc b) = eqb a b

-- low ≤ z ≤ high
unfoldable pub between : ℤ → ℤ → ℤ → Bool
between low high z = le_z low z && le_z z high

-- f holds of each of the numbers 0 to n-1
unfoldable pub each : ℕ → (ℕ → Bool) → Bool
each zero f = true
each (suc n) f = f zero && each n (λ k. f (suc k))

module _ {A : Type 0} where
  -- f holds of every item; of some item
  unfoldable pub every : (A → Bool) → List A → Bool
  every f [] = true
  every f (x ∷ xs) = f x && every f xs

  unfoldable pub exists : (A → Bool) → List A → Bool
  exists f [] = false
  exists f (x ∷ xs) = f x || exists f xs

  -- the items of which f holds, in their order
  unfoldable pub keep : (A → Bool) → List A → List A
  keep f [] = []
  keep f (x ∷ xs) = elim (f x) [ true ↦ x ∷ keep f xs | false ↦ keep f xs ]

  -- each item once, at the first one's place; `equal` says of two items whether they are
  unfoldable pub once : (equal : A → A → Bool) → List A → List A
  once equal [] = []
  once equal (x ∷ xs) = x ∷ keep (λ y. not (equal x y)) (once equal xs)

unfoldable pub member : ℕ → List ℕ → Bool
member a list = exists (eqb a) list

-- two lists of numbers are equal
unfoldable pub same : List ℕ → List ℕ → Bool
same [] [] = true
same [] (b ∷ t) = false
same (a ∷ s) [] = false
same (a ∷ s) (b ∷ t) = elim (eqb a b) [ true ↦ same s t | false ↦ false ]

unfoldable pub sum : List ℕ → ℕ
sum [] = 0
sum (n ∷ ns) = n + sum ns

-- n, n+1, .., `count` of them
unfoldable pub count_up : ℕ → ℕ → List ℕ
count_up n zero = []
count_up n (suc count) = n ∷ count_up (suc n) count

-- what may be lacking
unfoldable pub lacks : {A : Type 0} → Option A → Bool
lacks none = true
lacks (some a) = false

unfoldable pub or_else : {A : Type 0} → A → Option A → A
or_else other none = other
or_else other (some a) = a

unfoldable pub on_some : {A B : Type 0} → (A → Option B) → Option A → Option B
on_some f none = none
on_some f (some a) = f a
