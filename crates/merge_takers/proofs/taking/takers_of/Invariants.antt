-- `merge_takers::taking::takers_of` meets its contract: the places so far, and those to come.
use Rattle.merge_takers.proofs.TakingLaws.{Taking}
use Rattle.merge_takers.proofs.taking.takers_of.Given as goal

abbrev pub invariant-loop-i : goal.invariant-loop-i
invariant-loop-i l = Taking l.t l.fn.x.edges l.action l.picks l.count l.i l.places
