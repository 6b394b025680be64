use mathlib.Core.Path.{◌≡◌}
use Prim.Native.Nat.{◌-◌}
use Rattle.model.specs.Basic.{exists, count_up}
use Rattle.judge_cover.specs.Cover.{dominated, skipped_at}
use Rattle.judge_cover.proofs.edges.skipped.Given as goal

abbrev pub invariant-loop-j : goal.invariant-loop-j
invariant-loop-j l = exists (dominated l.masks l.u l.i) (count_up l.j (l.to - l.j)) ≡ skipped_at l.masks l.from l.to l.u l.i
