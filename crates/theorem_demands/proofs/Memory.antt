-- Lent memory with something put into its first places.
use Prim.Native.Nat.{◌≤◌}
use mathlib.Core.Path.{◌∙◌}
use mathlib.Core.List.{List, ◌++◌}
use native.Mathlib.Omega.{arith}
use lib.ListN.{length, drop, length-append, length-drop}
use lib.Seq.{take-append_seam, drop-append_seam}
use Rattle.theorem_demands.specs.Calls.{PutInto}

pub put_first : {A : Type 0} (lent content : List A) → length content ≤ length lent
    → PutInto lent content (content ++ drop (length content) lent)
put_first lent content room = record {
  room = room;
  placed = take-append_seam content _;
  others = drop-append_seam content _;
  same_length =
      length-append content (drop (length content) lent) ∙ omega (arith, room, length-drop (length content) lent);
}
