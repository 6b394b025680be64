-- The search's four functions call each other, and meet their contracts together. The measure: four times the groups that are left, and
-- what orders the four among themselves. Each way out of a function is a law of SeekLaws.
use mathlib.Core.Path.{◌≡◌}
use Prim.Native.Nat.{◌+◌, ◌*◌, ◌-◌}
use Rattle.model.specs.Basic.{exists, count_up}
use Rattle.judge_cover.specs.Steps.{through_at, tries_at}
use Rattle.judge_cover.proofs.SeekLaws.{Branching}
use Rattle.judge_cover.proofs.seek.+branch_narrowed_seek_tried.Given as goal

abbrev pub decreases-branch : goal.decreases-branch
decreases-branch l = 4 * l.n + 1

abbrev pub decreases-narrowed : goal.decreases-narrowed
decreases-narrowed l = 4 * l.n + 2

abbrev pub decreases-seek : goal.decreases-seek
decreases-seek l = 4 * l.n + 3

abbrev pub decreases-tried : goal.decreases-tried
decreases-tried l = 4 * l.n

abbrev pub invariant-branch-loop-k : goal.invariant-branch-loop-k
invariant-branch-loop-k l =
    Branching l.initial.kept l.starts l.initial.ends l.gains l.n l.u l.total l.v l.kept l.ends l.k

abbrev pub invariant-tried-loop-i : goal.invariant-tried-loop-i
invariant-tried-loop-i l =
    exists (tries_at l.masks l.a l.b l.from l.to (l.n - 1) l.u l.v) (count_up l.i (l.b - l.i)) ≡ through_at l.masks l.starts l.ends l.n l.u l.v l.k
