-- What the judges' answers mean in the definitions, and an answer's number.
use Rattle.model.specs.declared.Row.{Row}
use Rattle.std.specs.Prelude.{ℕ, ◌+◌, cond, Result, Ok, Err}
use Rattle.model.specs.Judge as J
use Rattle.judge_call.specs.declared.Answer.{Answer}
use Rattle.judge_call.specs.declared.Answer.TheVariants.{Yes, Marked, No}

unfoldable pub answer_of : Result Answer Row → J.Answer
answer_of (Ok Yes) = J.yes
answer_of (Ok (Marked mark)) = J.marked mark
answer_of (Ok No) = J.no
answer_of (Err r) = J.refused r.0

-- 0 no, 1 yes, 2 yes with the mark true; from 100 up, 100 + the row that refuses
unfoldable pub answer_number : J.Answer → ℕ
answer_number J.no = 0
answer_number J.yes = 1
answer_number (J.marked mark) = cond mark 2 1
answer_number (J.refused row) = 100 + row
