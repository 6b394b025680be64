-- The parts of a slice from a place on, as a loop over them reads it: none past the end.
use Prim.Native.Nat.{ℕ, ◌+◌, ◌-◌, ◌≤◌, ◌<◌}
use mathlib.Core.Path.{◌≡◌, refl, sym, ◌∙◌}
use mathlib.Core.Bool.{Bool, true, false}
use mathlib.Core.List.{List, [], ◌∷◌}
use native.Mathlib.Omega.{arith}
use borrow.Author.Tests.{le-leb, lt-leb, leb-true, leb-false}
use lib.ListN.{length, take, drop, length-drop}
use lib.Seq.{take_all}
use lib.Dec.{leb}
use Rattle.format.specs.Bytes.{Bytes, parts}
use Rattle.text_bytes.specs.Find.{first_from}
use Rattle.text_bytes.proofs.FindLaws.{find_after, parts_found, parts_ended}

unfoldable pub parts_from : ℕ → Bytes → ℕ → List Bytes
parts_from c s at = elim (leb at (length s)) [ true ↦ parts c (drop at s) | false ↦ [] ]

pub from_within : (c : ℕ) (s : Bytes) (at : ℕ) → at ≤ length s → parts_from c s at ≡ parts c (drop at s)
unfolding parts_from
from_within c s at h = rw (le-leb at (length s) h, parts_from)

pub from_past : (c : ℕ) (s : Bytes) (at : ℕ) → length s < at → parts_from c s at ≡ []
unfolding parts_from
from_past c s at h = rw (lt-leb at (length s) h, parts_from)

pub from_start : (c : ℕ) (s : Bytes) → parts_from c s 0 ≡ parts c s
from_start c s = from_within c s 0 (omega arith)

-- a turn: the part up to where `find` stopped, then those from the place after
pub from_step : (c : ℕ) (s : Bytes) (at r : ℕ) → at ≤ length s → r ≡ first_from s at c → parts_from c s at ≡ take (r - at) (drop at s) ∷ parts_from c s (r + 1)
from_step c s at r h e = from_within c s at h ∙ go (leb (length s) r) refl
  where
    go : (v : Bool) → leb (length s) r ≡ v → parts c (drop at s) ≡ take (r - at) (drop at s) ∷ parts_from c s (r + 1)
    go true k =
        let l : length s ≤ r = leb-true (length s) r k in
        let w : length (drop at s) ≤ r - at = omega (arith, length-drop at s) in
        parts_ended s at c r h e l ∙ sym (rw (take_all (r - at) (drop at s) w, from_past c s (r + 1) (omega arith)))
    go false k =
        let l : r < length s = leb-false (length s) r k in
        parts_found s at c r h e l ∙ rw (from_within c s (r + 1) (omega arith))

-- what a loop over the parts needs: the end is not before the start, and less is left after each turn
pub turn_less : (c : ℕ) (s : Bytes) (at r : ℕ) → at ≤ length s → r ≡ first_from s at c → length s + 1 - (r + 1) < length s + 1 - at
turn_less c s at r h e = let l : at ≤ r = find_after s at c r h e in omega arith

pub ruleset turn_laws = (find_after, turn_less)
