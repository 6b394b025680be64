use Rattle.judge_cover.proofs.CodeLaws.{has_edge}
use mathlib.Core.Path.{◌≡◌}
use Prim.Native.Nat.{◌-◌}
use Rattle.model.specs.Basic.{every, count_up}
use Rattle.judge_cover.specs.Cover.{all_filled}
use Rattle.judge_cover.proofs.places.all_filled.Given as goal

abbrev pub invariant-loop-k : goal.invariant-loop-k
invariant-loop-k l = every (has_edge l.starts l.ends) (count_up l.k (l.n - l.k)) ≡ all_filled l.starts l.ends l.n
