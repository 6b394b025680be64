-- `reader::sheet::round` meets its contract: each way out is a law of SheetLaws.
use mathlib.Core.Path.{◌∙◌}
use Rattle.reader.proofs.SheetLaws.{round_done, round_lacking, round_ended, round_due, round_due_after, round_extra, round_stays, round_line, round_words}
use Rattle.reader.proofs.sheet.round.Goals as goal

pub returns-then-end-is_none : goal.returns-then-end-is_none
returns-then-end-is_none c = (
  round_done _ _ _ _ _ c.end-end.ensures c.if-text-byte.true _ c.is_none.ensures c.if-end-is_none.true,
  round_ended _ c.args.number _ _ _ c.end-end.ensures c.if-text-byte.true,
)

pub returns-then-text-byte : goal.returns-then-text-byte
returns-then-text-byte c = (
  c.refused.ensures ∙ round_lacking _ _ _ _ _ c.end-end.ensures c.if-text-byte.true _ c.is_none.ensures c.if-end-is_none.false,
  round_ended _ c.args.number _ _ _ c.end-end.ensures c.if-text-byte.true,
)

pub returns-in-Some : goal.returns-in-Some
returns-in-Some c = (
  round_due _ _ _ _ _ c.end-end.ensures c.if-text-byte.false _ c.in-Some.is _ c.due_behind.ensures.0,
  round_due_after _ c.args.number _ _ _ c.end-end.ensures c.if-text-byte.false _ c.in-Some.is _ c.due_behind.ensures.1,
)

pub returns-then-end : goal.returns-then-end
returns-then-end c = (
  c.refused-then-end.ensures ∙ round_extra _ _ _ _ _ c.end-end.ensures c.if-text-byte.false c.in-None.is c.if-end.true,
  round_stays _ c.args.number _ _ _ c.end-end.ensures c.if-text-byte.false c.in-None.is c.if-end.true,
)

pub returns-else-end : goal.returns-else-end
returns-else-end c = (
  round_line _ _ _ _ _ c.end-end.ensures c.if-text-byte.false c.in-None.is c.if-end.false _ c.line.ensures.0,
  round_words _ c.args.number _ _ _ c.end-end.ensures c.if-text-byte.false c.in-None.is c.if-end.false _ c.line.ensures.1,
)
