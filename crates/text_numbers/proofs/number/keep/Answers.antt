use mathlib.Core.Path.{◌∙◌}
use Rattle.text_numbers.proofs.NumberLaws.{keep_none, keep_below, keep_above, keep_within}
use Rattle.text_numbers.proofs.number.keep.Goals as goal
use Rattle.text_numbers.proofs.number.keep.Goals.{then-z-low-via-then-z-low, then-z-low-via-else-z-low+then-high-z}

pub returns-in_err-z : goal.returns-in_err-z
returns-in_err-z c = let f = c.ranges in
    c.from_residual.ensures ∙ keep_none _ _ _ f.z f.low f.high _ c.try_from.ensures c.in_err-z.ensures.value

pub returns-then-z-low : goal.returns-then-z-low
returns-then-z-low c = let f = c.ranges in
    elim c.then-z-low.branch [
      | then-z-low-via-then-z-low w ↦ keep_below _ _ _ f.z f.low f.high _ c.try_from.ensures _ c.in_ok-z.ensures.value w.if-z-low.true
      | then-z-low-via-else-z-low+then-high-z w ↦ keep_above _ _ _ f.z f.low f.high _ c.try_from.ensures _ c.in_ok-z.ensures.value w.if-high-z.true
    ]

pub returns : goal.returns
returns c = let f = c.ranges in
    keep_within _ _ _ f.z f.low f.high _ c.try_from.ensures _ c.in_ok-z.ensures.value c.if-z-low.false c.if-high-z.false
