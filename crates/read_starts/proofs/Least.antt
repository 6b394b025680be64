-- Of rows that stand one after the other: of two lists of them the smallest row that is broken in either.
use Prim.Native.Nat.{ℕ, suc, ◌+◌, ◌-◌, ◌≤◌, ◌<◌}
use mathlib.Core.Path.{◌≡◌, refl, ◌∙◌, ap}
use mathlib.Core.Bool.{Bool, true, false, ◌||◌, or_assoc}
use mathlib.Core.List.{List, [], ◌∷◌}
use mathlib.Core.Option.{Option, none, some}
use native.Mathlib.Omega.{arith}
use borrow.Author.Tests.{le-leb, lt-leb}
use lib.Dec.{leb}
use lib.ListN.{length}
use Rattle.std.specs.Prelude as Std
use Rattle.std.specs.Prelude.{Some, None}
use Rattle.model.specs.declared.Row.{Row}
use Rattle.model.specs.Row.{row}
use Rattle.model.specs.Limits.{broken}
use Rattle.read_starts.specs.Judged.{smaller, row_of}

-- the rows from r on that are broken, and the smallest
abbrev pub rows : ℕ → List Bool → Option ℕ
rows r [] = none
rows r (b ∷ bs) = broken r b (rows (suc r) bs)

abbrev pub either : List Bool → List Bool → List Bool
either [] ys = ys
either (x ∷ xs) [] = x ∷ xs
either (x ∷ xs) (y ∷ ys) = (x || y) ∷ either xs ys

-- as the code says and joins them
abbrev pub number : Option ℕ → Std.Option Row
number none = None
number (some r) = Some (row r)

abbrev pub lesser : ℕ → ℕ → ℕ
lesser b a = elim (leb b a) [ true ↦ b | false ↦ a ]

abbrev pub least : Option ℕ → Option ℕ → Option ℕ
least none y = y
least (some a) none = some a
least (some a) (some b) = some (lesser b a)

pub least_none : (o : Option ℕ) → least o none ≡ o
least_none none = refl
least_none (some a) = refl

pub number_least : (o : Option ℕ) (b : ℕ) → Some (smaller (row b) (number o)) ≡ number (least o (some b))
unfolding smaller
number_least none b = refl
number_least (some a) b = go (leb b a)
  where
    go : (v : Bool) → Some (elim v as (λ x. Row) [ true ↦ row b | false ↦ row a ]) ≡ Some (row (elim v as (λ x. ℕ) [ true ↦ b | false ↦ a ]))
    go true = refl
    go false = refl

-- `lesser` of rows in order
pub below : (b a : ℕ) → b ≤ a → lesser b a ≡ b
below b a h = ap (λ (v : Bool). elim v as (λ x. ℕ) [ true ↦ b | false ↦ a ]) (le-leb b a h)

pub above : (b a : ℕ) → a < b → lesser b a ≡ a
above b a h = ap (λ (v : Bool). elim v as (λ x. ℕ) [ true ↦ b | false ↦ a ]) (lt-leb b a h)

-- a row that is broken is one of them
pub rows_within : (bs : List Bool) (r a : ℕ) → rows r bs ≡ some a → (r ≤ a) × (a < r + length bs)
unfolding broken
rows_within [] r a e = absurd (let z : ◌≡◌ {A = ℕ} 0 1 = cc in omega arith)
rows_within (true ∷ bs) r a e = let z : r ≡ a = cc in (omega arith, omega arith)
rows_within (false ∷ bs) r a e = let i = rows_within bs (suc r) a e in (omega (arith, i.0), omega (arith, i.1))

pub least_rows : (xs ys : List Bool) (r : ℕ) → 0 < r → least (rows r xs) (rows r ys) ≡ rows r (either xs ys)
unfolding broken
least_rows [] ys r p = refl
least_rows (x ∷ xs) [] r p = least_none (rows r (x ∷ xs))
least_rows (true ∷ xs) (true ∷ ys) r p = ap (λ (n : ℕ). some n) (below r r (omega arith))
least_rows (true ∷ xs) (false ∷ ys) r p = go (rows (suc r) ys) refl
  where
    go : (o : Option ℕ) → rows (suc r) ys ≡ o → least (some r) o ≡ some r
    go none e = refl
    go (some b) e = ap (λ (n : ℕ). some n) (above b r (omega (arith, (rows_within ys (suc r) b e).0)))
least_rows (false ∷ xs) (true ∷ ys) r p = go (rows (suc r) xs) refl
  where
    go : (o : Option ℕ) → rows (suc r) xs ≡ o → least o (some r) ≡ some r
    go none e = refl
    go (some a) e = ap (λ (n : ℕ). some n) (below r a (omega (arith, (rows_within xs (suc r) a e).0)))
least_rows (false ∷ xs) (false ∷ ys) r p = least_rows xs ys (suc r) (omega arith)

pub either_assoc : (xs ys zs : List Bool) → either (either xs ys) zs ≡ either xs (either ys zs)
either_assoc [] ys zs = refl
either_assoc (x ∷ xs) [] zs = refl
either_assoc (x ∷ xs) (y ∷ ys) [] = refl
either_assoc (x ∷ xs) (y ∷ ys) (z ∷ zs) =
    ap (λ (b : Bool). b ∷ either (either xs ys) zs) (or_assoc x y z) ∙ ap (λ (l : List Bool). (x || (y || z)) ∷ l) (either_assoc xs ys zs)

pub either_long : (xs ys : List Bool) (n : ℕ) → length xs ≤ n → length ys ≤ n → length (either xs ys) ≤ n
either_long [] ys n h k = k
either_long (x ∷ xs) [] n h k = h
either_long (x ∷ xs) (y ∷ ys) n h k = let m = either_long xs ys (n - 1) (omega arith) (omega arith) in omega arith

-- the row that it says
pub said_row : (o : Option ℕ) → row_of (number o) ≡ o
unfolding row_of
said_row none = refl
said_row (some a) = refl
