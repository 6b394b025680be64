use mathlib.Core.Path.{◌≡◌}
use Prim.Native.Nat.{◌-◌}
use Rattle.model.specs.Basic.{exists, count_up}
use Rattle.judge_cover.specs.Cover.{named_in}
use Rattle.judge_cover.proofs.CodeLaws.{mentions_at}
use Rattle.judge_cover.proofs.edges.names.Given as goal

abbrev pub invariant-loop-i : goal.invariant-loop-i
invariant-loop-i l = exists (mentions_at l.masks l.v) (count_up l.i (l.to - l.i)) ≡ named_in l.masks l.from l.to l.v
