-- `sheet` meets its contract: from each round on, the rounds that are left come to the same outcome.
use mathlib.Core.Path.{sym, ◌∙◌, ap}
use native.Mathlib.Omega.{arith}
use Rattle.std.specs.Prelude.{Ok}
use Rattle.std.proofs.lemmas.Result.{err_from_is_err_and}
use Rattle.reader.proofs.SheetLaws.{sheet_first, spent_answer, spent_words, broken_answer, broken_words, done_answer, done_words, sheet_on}
use Rattle.reader.proofs.sheet.sheet.Goals as goal

pub loop-number-init : goal.loop-number-init
loop-number-init c = (sheet_first _ _ _ c.first-place.ensures, c.requires)

pub returns-in_err-later : goal.returns-in_err-later
returns-in_err-later c =
    let p = err_from_is_err_and c.from_residual.result c.from_residual.ensures.1 in (
      rw (p.1, p.2) (broken_answer _ _ _ _ _ c.loop-number.invariant.0 (omega arith) _ c.in_err-later.ensures.1 _ c.in_err-later.ensures.0),
      broken_words _ _ _ _ _ c.loop-number.invariant.0 (omega arith) _ c.in_err-later.ensures.1 _ c.in_err-later.ensures.0,
    )

pub returns-in-None : goal.returns-in-None
returns-in-None c = (
  done_answer _ _ _ _ _ c.loop-number.invariant.0 (omega arith) _ c.in_ok-later.ensures.1 (sym (ap Ok c.in-None.is) ∙ c.in_ok-later.ensures.0),
  done_words _ _ _ _ _ c.loop-number.invariant.0 (omega arith) _ c.in_ok-later.ensures.1 (sym (ap Ok c.in-None.is) ∙ c.in_ok-later.ensures.0),
)

pub loop-number-preserved : goal.loop-number-preserved
loop-number-preserved c = (
  sheet_on _ _ _ _ _ c.loop-number.invariant.0 (omega arith) _ c.in_ok-later.ensures.1 _ (sym (ap Ok c.in-Some.is) ∙ c.in_ok-later.ensures.0),
  c.loop-number.invariant.1,
)

pub returns : goal.returns
returns c =
    (spent_answer _ _ _ _ _ c.loop-number.invariant.0 (omega arith), spent_words _ _ _ _ _ c.loop-number.invariant.0 (omega arith))
