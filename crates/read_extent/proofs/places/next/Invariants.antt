-- The first `ini` from the first place on is that from `at` on, and the tokens that are left reach to the end.
use Rattle.std.proofs.Common.{length}
use Rattle.read_extent.proofs.PlacesLaws.{Seeks}
use Rattle.read_extent.proofs.places.next.Given as goal

abbrev pub invariant-loop-token : goal.invariant-loop-token
invariant-loop-token l = Seeks l.part l.from (length l.yielded) l.at
