-- `read_composition::compose::read` meets its contract: the definition goes on from the place `at` with the walk and the memory so far.
-- The measure is what is left of the text.
use Prim.Native.Nat.{◌+◌, ◌-◌, ◌≤◌}
use mathlib.Core.Path.{◌≡◌}
use mathlib.Core.List.{[]}
use lib.ListN.{length}
use Rattle.format.specs.Bytes.{space}
use Rattle.format.specs.Tokens.{outside}
use Rattle.read_composition.specs.Token.{kinds_of}
use Rattle.read_composition.specs.Read.{outcome, walk}
use Rattle.text_bytes.proofs.Parting.{parts_from}
use Rattle.read_composition.proofs.ComposeLaws.{Within}
use Rattle.read_composition.proofs.compose.read.Given as goal

abbrev pub invariant-loop-at : goal.invariant-loop-at
invariant-loop-at l = (l.at ≤ length l.part + 1) × Within l.w l.at × (outcome l.automata l.part l.initial.out ≡ walk l.automata l.w l.out (kinds_of l.due (outside 0 [] (parts_from space l.part l.at))))

abbrev pub decreases-loop-at : goal.decreases-loop-at
decreases-loop-at l = length l.part + 1 - l.at
