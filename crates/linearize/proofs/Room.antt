-- Room in a buffer.
use Prim.Native.Nat.{ℕ, ◌+◌, ◌-◌, ◌≤◌}
use native.Mathlib.Omega.{arith}
use mathlib.Core.List.{List}
use lib.ListN.{length, take, drop, length-take, length-drop}
use Rattle.model.proofs.Lists.{first_long}

-- what was put into the rest of a buffer is within it
pub rest_room : (b : List ℕ) (n k : ℕ) → n ≤ length b → k ≤ length (take (length b - n) (drop n b)) → n + k ≤ length b
rest_room b n k h l = let g : k ≤ length b - n = omega (arith, length-take (length b - n) (drop n b), length-drop n b, l) in omega arith

pub ruleset room = (rest_room, first_long)
