-- The parts of a slice are those that the library's `split` gives, and a loop takes them one by one.
use Prim.Native.Nat.{ℕ, suc, ◌+◌, ◌≤◌, ◌<◌}
use mathlib.Core.Path.{◌≡◌, refl, sym, ◌∙◌, ap}
use mathlib.Core.Bool.{Bool, true, false}
use mathlib.Core.List.{List, [], ◌∷◌, map}
use native.Mathlib.Omega.{arith}
use native.Mathlib.Numerals.{add-one}
use lib.ListN.{length, get_or, drop, drop_of_length-le}
use lib.Seq.{drop-cons}
use lib.Dec.{eqb}
use Rattle.std.specs.List.{slice_split, onto_first}
use Rattle.std.proofs.Common.{cond}
use Rattle.format.specs.Bytes.{Bytes, parts, onto}

-- the parts by a test, as a closure computes it
abbrev pub split_at : ℕ → Bytes → List Bytes
split_at c s = slice_split (λ b. eqb b c) s

pub parts_split : (c : ℕ) (s : Bytes) → parts c s ≡ split_at c s
unfolding parts onto
parts_split c [] = refl
parts_split c (b ∷ t) = go (eqb b c) (parts_split c t)
  where
    first : (l : List Bytes) → onto b l ≡ onto_first b l
    first [] = refl
    first (u ∷ us) = refl

    go : (v : Bool) → parts c t ≡ split_at c t → elim v as (λ x. List Bytes) [ true ↦ [] ∷ parts c t | false ↦ onto b (parts c t) ] ≡ cond v ([] ∷ split_at c t) (onto_first b (split_at c t))
    go true ih = ap (λ (l : List Bytes). [] ∷ l) ih
    go false ih = first (parts c t) ∙ ap (onto_first b) ih

-- what a loop that has taken k of them takes next
pub parts_turn : (c : ℕ) (s : Bytes) (k : ℕ) (t : Bytes) → (k < length (split_at c s)) × (t ≡ get_or (split_at c s) k t) → drop k (parts c s) ≡ t ∷ drop (k + 1) (parts c s)
parts_turn c s k t h =
    let e : drop k (split_at c s) ≡ get_or (split_at c s) k t ∷ drop (suc k) (split_at c s) = drop-cons (split_at c s) k t h.0 in
    rw (parts_split c s, e, ← h.1, add-one k)

-- and after the last
pub parts_over : (c : ℕ) (s : Bytes) (k : ℕ) → k ≡ length (split_at c s) → drop k (parts c s) ≡ []
parts_over c s k h = rw (parts_split c s) (drop_of_length-le (split_at c s) (omega arith))
