-- A list up to a place and from a place on, as the code reads and lends it.
use Prim.Native.Nat.{ℕ, ◌+◌, ◌-◌, ◌<◌}
use mathlib.Core.Path.{◌≡◌, sym}
use mathlib.Core.List.{List, [], ◌∷◌}
use native.Mathlib.Numerals.{add-one}
use native.Mathlib.Omega.{arith}
use lib.ListN.{length, get_or, take, drop, length-drop, drop_of_length-le}
use lib.Seq.{drop-cons, take_all}
use Rattle.model.proofs.Lists.{first_long, first_all}

pub at_place : (s : List ℕ) (i : ℕ) → i < length s → drop i s ≡ get_or s i 0 ∷ drop (i + 1) s
at_place s i h = rw add-one (drop-cons s i 0 h)

-- `&s[n..]`, and past the end
pub take_rest : (s : List ℕ) (n : ℕ) → take (length s - n) (drop n s) ≡ drop n s
take_rest s n = take_all (length s - n) (drop n s) (omega (arith, length-drop n s))

pub rest_past : (s : List ℕ) (n : ℕ) → length s < n → [] ≡ drop n s
rest_past s n h = sym (drop_of_length-le s {i = n} (omega arith))

pub ruleset first_laws = (first_all, first_long)
