-- `judge_settled::starts_hold` meets its contract: from each turn on, the walk goes on to the same end.
use Rattle.std.proofs.Common.{◌≡◌, ◌-◌}
use Rattle.judge_settled.specs.Settled.{hold_from, starts_hold_at}
use Rattle.judge_settled.proofs.starts_hold.Given as goal

abbrev pub invariant-loop : goal.invariant-loop
invariant-loop l = hold_from l.sheet.words.now l.sheet.layout l.s.values l.at (l.n - l.counter) ≡ starts_hold_at l.sheet.words.now l.sheet.layout l.s
