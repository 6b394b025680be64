-- The recursion meets its contract; the measure is the number of groups left.
use mathlib.Core.Path.{◌≡◌}
use Prim.Native.Nat.{◌-◌}
use Rattle.model.specs.Basic.{exists, count_up}
use Rattle.judge_cover.specs.Cover.{coverable}
use Rattle.judge_cover.specs.Steps.{groups_from}
use Rattle.judge_cover.proofs.SeekLaws.{chooses_at}
use Rattle.judge_cover.proofs.plain.+cover.Given as goal

abbrev pub decreases-cover : goal.decreases-cover
decreases-cover l = l.n - l.k

abbrev pub invariant-loop-i : goal.invariant-loop-i
invariant-loop-i l =
    exists (chooses_at l.masks l.starts l.ends l.k l.n l.u) (count_up l.i (l.to - l.i)) ≡ coverable (groups_from l.masks l.starts l.ends l.k l.n) l.u
