-- The definition goes on from the place with what the digits so far make.
use Prim.Native.Nat.{◌≤◌}
use mathlib.Core.Path.{◌≡◌}
use lib.ListN.{drop}
use Rattle.format.specs.Number.{digits}
use Rattle.text_numbers.specs.Number.{up_to}
use Rattle.text_numbers.proofs.number.digits.Given as goal

abbrev pub invariant-loop-b : goal.invariant-loop-b
invariant-loop-b l = (l.made ≤ l.high) × (up_to l.high (digits 0 l.s) ≡ up_to l.high (digits l.made (drop l.b-index l.s)))
