-- Joining one more.
use Prim.Native.Nat.{ℕ, zero, suc, ◌<◌}
use mathlib.Core.Path.{◌≡◌, refl, sym, ◌∙◌, ap}
use mathlib.Core.Bool.{Bool, true, false}
use mathlib.Core.List.{List, [], ◌∷◌, ◌++◌, map, append_assoc, append-nil}
use native.Mathlib.Omega.{arith}
use borrow.Author.Tests.{ne_eqb}
use lib.ListN.{length, take}
use lib.Dec.{eqb}
use Rattle.format.specs.Bytes.{Bytes, led_by, joined}
use Rattle.format.proofs.BytesLaws.{led_append}
use Rattle.write_words.specs.Growing.{between}

-- is a list empty?
unfoldable pub is_none : {A : Type 0} → List A → Bool
is_none [] = true
is_none (x ∷ xs) = false

pub joined_snoc : (c : ℕ) (xs : List Bytes) (x : Bytes) → joined c (xs ++ x ∷ []) ≡ joined c xs ++ between (is_none xs) (c ∷ []) ++ x
unfolding joined led_by between is_none
joined_snoc c [] x = append-nil x
joined_snoc c (y ∷ ys) x =
    ap (λ (l : Bytes). y ++ l) (led_append c ys (x ∷ [])) ∙
    rw (append-nil x) (sym (append_assoc y (led_by c ys) (c ∷ x)) ∙ sym (append_assoc (y ++ led_by c ys) (c ∷ []) x))

pub map-append : {A B : Type 0} (f : A → B) (xs ys : List A) → map f (xs ++ ys) ≡ map f xs ++ map f ys
map-append f [] ys = refl
map-append f (x ∷ xs) ys = ap (λ l. f x ∷ l) (map-append f xs ys)

-- the first i of more than i items are none if i is 0
pub none_taken : {A B : Type 0} (f : A → B) (i : ℕ) (xs : List A) → i < length xs → is_none (map f (take i xs)) ≡ eqb i 0
unfolding is_none
none_taken f zero xs h = refl
none_taken f (suc i) [] h = absurd (omega arith)
none_taken f (suc i) (x ∷ xs) h = sym (ne_eqb (suc i) 0 (λ e. omega arith))
