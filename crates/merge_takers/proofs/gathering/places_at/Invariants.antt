-- `merge_takers::gathering::places_at` meets its contract: the places so far, and those to come.
use Rattle.merge_takers.proofs.GatheringLaws.{Reading}
use Rattle.merge_takers.proofs.gathering.places_at.Given as goal

abbrev pub invariant-loop-held : goal.invariant-loop-held
invariant-loop-held l = Reading l.list l.at l.place l.held-index l.held-items
