-- Each way out of the code of src/read.rt.
use Prim.Native.Nat.{ℕ, ◌-◌, min}
use mathlib.Core.Path.{◌≡◌, sym, ap, ◌∙◌}
use mathlib.Core.List.{List}
use native.Mathlib.Omega.{arith}
use lib.ListN.{length, take, drop, drop_of_length-le}
use lib.Seq.{take_all}
use Rattle.std.proofs.Common.{inl, inr}
use Rattle.std.proofs.lemmas.Bool.{cases_lt}
use Rattle.text_bytes.proofs.Places.{take_rest}

pub rest_is : (s : List ℕ) (n m : ℕ) → m ≡ min n (length s) → take (length s - m) (drop m s) ≡ drop n s
rest_is s n m e =
    take_rest s m ∙
    elim (cases_lt (length s) n) [
      | inl h ↦ drop_of_length-le s {i = m} (omega arith) ∙ sym (drop_of_length-le s {i = n} (omega arith))
      | inr h ↦ let z : m ≡ n = omega arith in ap (λ i. drop i s) z
    ]

pub first_is : (s : List ℕ) (n m : ℕ) → m ≡ min n (length s) → take m s ≡ take n s
first_is s n m e =
    elim (cases_lt (length s) n) [
      | inl h ↦ take_all m s (omega arith) ∙ sym (take_all n s (omega arith))
      | inr h ↦ let z : m ≡ n = omega arith in ap (λ i. take i s) z
    ]

pub ruleset read_laws = (rest_is, first_is)
