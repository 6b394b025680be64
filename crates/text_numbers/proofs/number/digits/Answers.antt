-- The definition goes on from the place with what the digits so far make.
use mathlib.Core.Path.{◌∙◌, refl}
use native.Mathlib.Omega.{arith}
use Rattle.text_numbers.proofs.NumberLaws.{digits_out, digit_low, digits_over, digits_go, digits_all}
use Rattle.text_numbers.proofs.number.digits.Goals as goal

pub returns-then-not-digit : goal.returns-then-not-digit
returns-then-not-digit c =
    digits_out _ _ _ _ c.loop-b.invariant.1 c.loop-b-test.true _ c.digit.ensures c.if-not-digit.true

pub returns-in_err-checked_mul : goal.returns-in_err-checked_mul
returns-in_err-checked_mul c =
    c.from_residual.ensures ∙
    digits_over _ _ _ _ c.loop-b.invariant.1 c.loop-b-test.true _ c.digit.ensures c.if-not-digit.false _ refl (omega (arith, c.in_err-checked_mul.ensures))

pub overflow_sub-b : goal.overflow_sub-b
overflow_sub-b c =
    digit_low _ _ _ _ c.loop-b.invariant.1 c.loop-b-test.true _ c.digit.ensures c.if-not-digit.false

pub returns-in_err-made : goal.returns-in_err-made
returns-in_err-made c =
    c.from_residual-in_err-made.ensures ∙
    digits_over _ _ _ _ c.loop-b.invariant.1 c.loop-b-test.true _ c.digit.ensures c.if-not-digit.false _ refl (omega (arith, c.in_ok-checked_mul.ensures, c.from.ensures, c.in_err-made.ensures))

pub returns-then-high-made : goal.returns-then-high-made
returns-then-high-made c =
    digits_over _ _ _ _ c.loop-b.invariant.1 c.loop-b-test.true _ c.digit.ensures c.if-not-digit.false _ (omega (arith, c.in_ok-checked_mul.ensures, c.from.ensures, c.in_ok-made.ensures)) c.if-high-made.true

pub loop-b-preserved : goal.loop-b-preserved
loop-b-preserved c = (
  c.if-high-made.false,
  digits_go _ _ _ _ c.loop-b.invariant.1 c.loop-b-test.true _ c.digit.ensures c.if-not-digit.false _ (omega (arith, c.in_ok-checked_mul.ensures, c.from.ensures, c.in_ok-made.ensures)),
)

pub returns : goal.returns
returns c =
    digits_all _ _ _ _ c.loop-b.invariant.1 (omega arith) (omega arith) c.loop-b.invariant.0
