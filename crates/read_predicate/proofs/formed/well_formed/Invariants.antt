-- The sorts of the words from i on are on the stack, which is as long as at first.
use Prim.Native.Nat.{◌≤◌}
use lib.ListN.{length}
use Rattle.read_predicate.specs.Scratch.{Scratch}
use Rattle.read_predicate.proofs.FormedLaws.{Sorted}
use Rattle.read_predicate.proofs.formed.well_formed.Given as goal

abbrev pub invariant-loop-i : goal.invariant-loop-i
invariant-loop-i l = (l.n ≤ length l.initial.sorts) × (l.n ≤ length l.words) × Sorted l.words l.n l.sorts l.height l.i × Scratch l.initial.sorts l.sorts
