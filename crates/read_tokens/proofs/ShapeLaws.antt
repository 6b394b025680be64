-- One token: each way out of the code of src/tokens.rt, and what its shape says of its numeral.
use Prim.Native.Nat.{ℕ, ◌≤◌, ◌<◌}
use mathlib.Core.Path.{◌≡◌, refl, sym, ◌∙◌}
use mathlib.Core.Bool.{Bool, true, false, ◌&&◌, ◌||◌}
use mathlib.Core.List.{[], ◌∷◌}
use native.Mathlib.Omega.{arith}
use lib.ListN.{length, get_or, drop}
use lib.IntN.{ℤ}
use lib.Dec.{eqb}
use Rattle.format.specs.Bytes.{Bytes, minus}
use Rattle.format.specs.Number.{digit, within, integer_of}
use Rattle.format.specs.Tokens.{Numeral, unjudged, bare, lettered, numeral}
use Rattle.text_numbers.specs.Number.{integer_in}
use Rattle.std.specs.Prelude as Std
use Rattle.std.specs.Prelude.{Some, None}
use Rattle.std.specs.Option.{is_some}
use Rattle.read_tokens.specs.Shape.{letter, shaped, shape_of}
use Rattle.read_tokens.specs.declared.tokens.Shape.{Shape}
use Rattle.read_tokens.specs.declared.tokens.Shape.TheVariants.{Bare, Lettered, Plain}

-- `numeral`
module _ (t : Bytes) where
  pub shape_empty : length t < 1 → Plain ≡ shape_of t
  unfolding shape_of shaped numeral
  shape_empty h = go t h
    where
      go : (s : Bytes) → length s < 1 → Plain ≡ shape_of s
      go [] e = refl
      go (b ∷ s) e = absurd (omega arith)

  module _ (p : Bool) (z : 1 ≤ length t) (e : p ≡ (digit (get_or t 0 0) || eqb (get_or t 0 0) minus)) where
    pub shape_bare : p ≡ true → Bare ≡ shape_of t
    unfolding shape_of shaped numeral
    shape_bare h = go t z (sym e ∙ h)
      where
        go : (s : Bytes) → 1 ≤ length s → (digit (get_or s 0 0) || eqb (get_or s 0 0) minus) ≡ true → Bare ≡ shape_of s
        go [] u k = absurd (omega arith)
        go (b ∷ []) u k = rw (k, shaped)
        go (b ∷ c ∷ s) u k = rw (k, shaped)

    module _ (h : p ≡ false) where
      pub shape_short : length t < 2 → Plain ≡ shape_of t
      unfolding shape_of shaped numeral
      shape_short l = go t z l (sym e ∙ h)
        where
          go : (s : Bytes) → 1 ≤ length s → length s < 2 → (digit (get_or s 0 0) || eqb (get_or s 0 0) minus) ≡ false → Plain ≡ shape_of s
          go [] n u k = absurd (omega arith)
          go (b ∷ []) n u k = rw (k, shaped)
          go (b ∷ c ∷ s) n u k = absurd (omega arith)

      module _ (l : 2 ≤ length t) (q r : Bool) (f : q ≡ letter (get_or t 0 0)) (g : r ≡ digit (get_or t 1 0)) where
        by_letter : (v : Bool) → (q && r) ≡ v → shape_of t ≡ elim v as (λ x. Shape) [ true ↦ Lettered (get_or t 0 0) | false ↦ Plain ]
        unfolding shape_of shaped numeral letter
        by_letter v k = go t l (sym e ∙ h) (rw (f, g) at k)
          where
            fin : (b c : ℕ) (s : Bytes) (w : Bool) → shaped (elim w [ true ↦ lettered b (c ∷ s) | false ↦ unjudged ]) ≡ elim w as (λ x. Shape) [ true ↦ Lettered b | false ↦ Plain ]
            fin b c s true = refl
            fin b c s false = refl

            go : (s : Bytes) → 2 ≤ length s → (digit (get_or s 0 0) || eqb (get_or s 0 0) minus) ≡ false → (letter (get_or s 0 0) && digit (get_or s 1 0)) ≡ v
                → shape_of s ≡ elim v as (λ x. Shape) [ true ↦ Lettered (get_or s 0 0) | false ↦ Plain ]
            go [] w m n = absurd (omega arith)
            go (b ∷ []) w m n = absurd (omega arith)
            go (b ∷ c ∷ s) w m n = rw (m, shaped, n) (fin b c s v)

        pub shape_lettered : (q && r) ≡ true → Lettered (get_or t 0 0) ≡ shape_of t
        shape_lettered k = sym (by_letter true k)

        pub shape_plain : (q && r) ≡ false → Plain ≡ shape_of t
        shape_plain k = sym (by_letter false k)

pub ruleset shape_laws = (shape_empty, shape_bare, shape_short, shape_lettered, shape_plain)

-- what a shape says: the number is all of the token, or what follows its letter
unfoldable pub from_shape : Shape → Bytes → Numeral
from_shape Bare t = bare t
from_shape (Lettered b) t = lettered b (drop 1 t)
from_shape Plain t = unjudged

pub numeral_is : (t : Bytes) → numeral t ≡ from_shape (shape_of t) t
unfolding from_shape shape_of shaped numeral letter
numeral_is [] = refl
numeral_is (b ∷ []) = go (digit b || eqb b minus)
  where
    go : (v : Bool) → ◌≡◌ {A = Numeral} (elim v [ true ↦ bare (b ∷ []) | false ↦ unjudged ]) (from_shape (shaped (elim v [ true ↦ bare (b ∷ []) | false ↦ unjudged ])) (b ∷ []))
    go true = refl
    go false = refl
numeral_is (b ∷ c ∷ t) = go (digit b || eqb b minus) (letter b && digit c)
  where
    read : Bool → Bool → Numeral
    read v w = elim v [ true ↦ bare (b ∷ c ∷ t) | false ↦ elim w [ true ↦ lettered b (c ∷ t) | false ↦ unjudged ] ]

    go : (v w : Bool) → read v w ≡ from_shape (shaped (read v w)) (b ∷ c ∷ t)
    go true w = refl
    go false true = refl
    go false false = refl

pub lettered_long : (t : Bytes) (x : Shape) (b : ℕ) → x ≡ shape_of t → x ≡ Lettered b → 1 ≤ length t
unfolding shape_of shaped numeral
lettered_long [] x b e h = absurd (let z : ◌≡◌ {A = ℕ} 0 1 = cc in omega arith)
lettered_long (c ∷ t) x b e h = omega arith

-- `number_fits`
pub number_is : (s : Bytes) (low high : ℤ) → is_some (integer_in s low high) ≡ within low high s
unfolding integer_in
number_is s low high = go (within low high s)
  where
    go : (v : Bool) → is_some (elim v as (λ x. Std.Option ℤ) [ true ↦ Some (integer_of s) | false ↦ None ]) ≡ v
    go true = refl
    go false = refl
