use mathlib.Core.Path.{◌∙◌}
use native.Mathlib.Omega.{arith}
use mir.Syntax.{w32, w64}
use mir.ValLaws.{to_z-of_z}
use Rattle.text_numbers.proofs.NumberLaws.{plain_fits, minus_fits, zero_minus, negate_zero, negate_more}
use Rattle.text_numbers.proofs.number.negate.Goals as goal

pub returns-then-n-gt0 : goal.returns-then-n-gt0
returns-then-n-gt0 c = let f = c.ranges in
    let x = c.args in
    (rw (c.from.ensures, to_z-of_z w64 _ (plain_fits f.n), to_z-of_z w64 _ (minus_fits x.n f.n), zero_minus x.n (omega arith), to_z-of_z w32 _ f.low, to_z-of_z w32 _ f.high) at c.keep.ensures) ∙
    negate_more x.low x.high x.n (omega arith)

pub returns : goal.returns
returns c = search negate_zero
