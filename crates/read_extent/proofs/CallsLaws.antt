-- Each way out of the code of src/calls.rt.
use Prim.Native.Nat.{ℕ, ◌≤◌}
use mathlib.Core.Path.{◌≡◌, refl, sym, ◌∙◌}
use mathlib.Core.Bool.{Bool, true, false, ◌||◌}
use mathlib.Core.List.{List, [], ◌∷◌}
use native.Mathlib.Omega.{arith}
use borrow.Author.Tests.{leb-true}
use lib.IntN.{pos}
use Rattle.model.specs.Basic.{same}
use Rattle.model.specs.Bounds.{max_operands}
use Rattle.format.specs.Bytes.{Bytes, bytes}
use Rattle.format.specs.Number.{within, natural_of}
use Rattle.format.specs.Tokens.{find, calls}
use Rattle.format.proofs.ReadLaws.{number_of_lem}
use Rattle.std.specs.Prelude.{Option, Some, None}
use Rattle.text_numbers.specs.Number.{natural_in}
use Rattle.text_numbers.proofs.NumberLaws.{natural_said, natural_denied}
use Rattle.read_extent.specs.Extent.{is_count, count_calls, calls_in}

-- `is_count`
pub count_is : (t : Bytes) (p q : Bool) → p ≡ same t (bytes "all") → q ≡ same t (bytes "any") → (p || q) ≡ is_count t
unfolding is_count
count_is t p q e f = rw (e, f)

-- the words before are not it, and this one is
module _ (t : Bytes) (n : ℕ) (k : Bytes) (v : ℕ) (ws : List (Bytes × ℕ)) (p : Bool) (e : p ≡ same k t) where
  pub calls_here : p ≡ true → n ≡ v → n ≡ find 0 ((k, v) ∷ ws) t
  unfolding find
  calls_here h g = rw (← e, h, find) g

  pub calls_on : p ≡ false → n ≡ find 0 ws t → n ≡ find 0 ((k, v) ∷ ws) t
  unfolding find
  calls_on h g = rw (← e, h, find) g

pub calls_none : (t : Bytes) (n : ℕ) → n ≡ 0 → n ≡ find 0 [] t
unfolding find
calls_none t n e = e

pub ruleset calls_laws = (calls_here, calls_on, calls_none)

-- `count_calls`
module _ (t : Bytes) (n : Option ℕ) (e : n ≡ natural_in t 512) where
  pub count_in : (k i : ℕ) → n ≡ Some k → i ≡ k → i ≡ count_calls t
  unfolding count_calls
  count_in k i h g =
      let s = natural_said t 512 k (sym e ∙ h) in
      rw (s.0, count_calls) (g ∙ sym s.1)

  pub count_out : n ≡ None → 0 ≡ count_calls t
  unfolding count_calls
  count_out h = rw (natural_denied t 512 (sym e ∙ h), count_calls)

pub ruleset count_laws = (count_in, count_out)

-- `calls_for`
module _ (t : Bytes) (counts : Bool) (r : ℕ) where
  pub for_count : counts ≡ true → r ≡ count_calls t → r ≡ calls_in counts t
  unfolding calls_in
  for_count h e = rw h e

  pub for_word : counts ≡ false → r ≡ find 0 calls t → r ≡ calls_in counts t
  unfolding calls_in
  for_word h e = rw h e

-- at most 512 are called for
abbrev All : ℕ → List (Bytes × ℕ) → Type 0
All n [] = Unit
All n (w ∷ ws) = (w.1 ≤ n) × All n ws

find_few : (ws : List (Bytes × ℕ)) (t : Bytes) (n : ℕ) → All n ws → find 0 ws t ≤ n
unfolding find
find_few [] t n h = omega arith
find_few (w ∷ ws) t n h = go (same w.0 t) (find_few ws t n h.1)
  where
    go : (v : Bool) → find 0 ws t ≤ n → elim v as (λ x. ℕ) [ true ↦ w.1 | false ↦ find 0 ws t ] ≤ n
    go true l = h.0
    go false l = l

count_few : (t : Bytes) → count_calls t ≤ 512
unfolding count_calls
count_few t = go (within (pos 0) (pos max_operands) t) refl
  where
    go : (v : Bool) → within (pos 0) (pos max_operands) t ≡ v → elim v as (λ x. ℕ) [ true ↦ natural_of t | false ↦ 0 ] ≤ 512
    go true e = leb-true (natural_of t) 512 (number_of_lem 512 t e).1
    go false e = omega arith

pub for_few : (t : Bytes) (r : ℕ) → r ≡ count_calls t → r ≤ 512
for_few t r e = let l = count_few t in omega arith

pub words_few : (t : Bytes) (r : ℕ) → r ≡ find 0 calls t → r ≤ 512
words_few t r e = let l = find_few calls t 512 (omega arith) in omega arith

pub ruleset for_laws = (for_count, for_word, for_few, words_few)
