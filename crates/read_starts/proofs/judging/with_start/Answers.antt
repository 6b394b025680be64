use Rattle.read_starts.proofs.JudgingLaws.{with_row}
use Rattle.read_starts.proofs.judging.with_start.Goals as goal

pub returns-in-Err-Row : goal.returns-in-Err-Row
returns-in-Err-Row c = with_row c.args.j c.args.read _ c.one_more.ensures _ _ _ c.in-Err-Row.is (rw c.in-Err-Row.is at c.in-Err-Row.field-0-is) c.smaller.ensures
