-- What is judged so far, and the P's from `from` on, are all. The measure is what is left of the bytes.
use Prim.Native.Nat.{◌+◌, ◌-◌}
use lib.ListN.{length}
use Rattle.read_predicate.specs.Scratch.{Scratch}
use Rattle.read_starts.proofs.JudgingLaws.{Goes}
use Rattle.read_starts.proofs.judging.judge.Given as goal

abbrev pub invariant-loop-at : goal.invariant-loop-at
invariant-loop-at l = Scratch l.initial.nodes l.nodes × Scratch l.initial.sorts l.sorts × Goes l.variables l.ranges l.before (length l.initial.nodes) (length l.initial.sorts) l.part l.j l.from

abbrev pub decreases-loop-at : goal.decreases-loop-at
decreases-loop-at l = length l.part + 1 - l.from
