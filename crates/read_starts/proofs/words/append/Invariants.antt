-- What is put from `end` on, for the P's from `from` on, completes the words of all. The measure is what is left.
use Prim.Native.Nat.{◌+◌, ◌-◌}
use lib.ListN.{length}
use Rattle.read_predicate.specs.Scratch.{Scratch}
use Rattle.read_starts.proofs.WordsLaws.{Goes}
use Rattle.read_starts.proofs.words.append.Given as goal

abbrev pub invariant-loop-start : goal.invariant-loop-start
invariant-loop-start l = Scratch l.initial.nodes l.nodes × Goes l.part l.initial.words l.at (length l.initial.nodes) l.end l.words l.from

abbrev pub decreases-loop-start : goal.decreases-loop-start
decreases-loop-start l = length l.part + 1 - l.from
