-- The search's three functions call each other, and meet their contracts together. The measure: twice the nodes left, and one more
-- for the two that pass theirs on to `seek`. Each way out of a function is a law of FoundSteps.
use Prim.Native.Nat.{◌+◌, ◌*◌}
use Rattle.judge_search.proofs.duties.Search.+parted_seek_taken.Given as goal

abbrev pub decreases-parted : goal.decreases-parted
decreases-parted l = 2 * l.n + 1

abbrev pub decreases-seek : goal.decreases-seek
decreases-seek l = 2 * l.left

abbrev pub decreases-taken : goal.decreases-taken
decreases-taken l = 2 * l.n + 1
