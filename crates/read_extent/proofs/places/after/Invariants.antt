-- What is taken from the first place on is what is taken up to `next` and from there on.
use Rattle.std.proofs.Common.{length}
use Rattle.read_extent.proofs.PlacesLaws.{Goes}
use Rattle.read_extent.proofs.places.after.Given as goal

abbrev pub invariant-loop-token : goal.invariant-loop-token
invariant-loop-token l = Goes l.part l.at (length l.yielded) l.next l.wanted l.counts
