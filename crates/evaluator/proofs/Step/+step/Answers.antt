-- The evaluator's functions call each other, and meet their contracts together: each way out is a law of NodeLaws.
-- The measure: three times the nodes left, one more for operands in a row, which pass their own on to the first of
-- them, and two more for `if`.
use borrow.Author.Rules.{rules}
use mathlib.Core.Path.{◌≡◌, sym, ◌∙◌}
use Prim.Native.Nat.{◌-◌}
use native.Mathlib.Omega.{arith}
use Rattle.evaluator.specs.Evaluate.{gather}
use Rattle.evaluator.proofs.Steps.{predicate_left, expression_left}
use Rattle.evaluator.proofs.NodeLaws.{predicate_laws, gather_more}
use Rattle.evaluator.proofs.Step.+step.Goals as goal

pub choice-numbers-requires : goal.choice-numbers-requires
choice-numbers-requires t c = let l = predicate_left _ _ _ _ _ _ c.predicate-p.ensures in
    search rules

pub implication-predicate-requires : goal.implication-predicate-requires
implication-predicate-requires t c = let l = predicate_left _ _ _ _ _ _ c.predicate-p.ensures in
    search rules

pub numbers-expression-y-requires : goal.numbers-expression-y-requires
numbers-expression-y-requires t c = let l = expression_left _ _ _ _ _ _ c.expression-x.ensures in
    search rules

pub operands-loop-preserved : goal.operands-loop-preserved
operands-loop-preserved t c = let m = c.loop in
    let l = predicate_left _ _ _ _ _ _ c.predicate-p.ensures in
    let more = sym (gather_more _ _ _ _ _ _ _ _ _ c.loop-test.true) ∙ m.invariant.1 in
    (omega (arith, m.invariant.0), rw c.predicate-p.ensures more)

pub operands-returns-after-loop : goal.operands-returns-after-loop
unfolding gather
operands-returns-after-loop t c = let e : c.args.count - c.loop.counter ≡ 0 = omega (arith, c.loop-test.false) in
    rw e at c.loop.invariant.1

pub predicate-returns-in-All : goal.predicate-returns-in-All
predicate-returns-in-All t c = search (rules, predicate_laws)

pub predicate-returns-in-Any : goal.predicate-returns-in-Any
predicate-returns-in-Any t c = search (rules, predicate_laws)
