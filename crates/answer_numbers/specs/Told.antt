-- The answers that the functions return, as one number each. Of a part that is larger than its bits the low bits are
-- taken.
use Rattle.std.specs.Prelude.{ℕ, ◌+◌, ◌*◌, ◌%◌, ◌^◌, Result, Ok, Err}
use Rattle.model.specs.Runs.{phase_number}
use Rattle.judge_rows.specs.Phases.{phase_is}
use Rattle.judge_rows.specs.declared.Phase.{Phase}
use Rattle.judge_runs.specs.declared.RunError.{RunError}
use Rattle.judge_runs.specs.declared.RunError.TheVariants as J
use Rattle.judge.specs.declared.TableSize.{TableSize}
use Rattle.model.specs.declared.Row.{Row}
use Rattle.reader.specs.declared.Refusal.{Refusal}
use Rattle.merger.specs.declared.Merged.{Merged}

-- the reader's: row, line
unfoldable pub told_number : Result (Unit {0}) Refusal → ℕ
told_number (Ok done) = 0
told_number (Err refusal) = refusal.row.0 * 2 ^ 32 + refusal.line % 2 ^ 32

-- the writer's: row, length
unfoldable pub written_number : Result ℕ Row → ℕ
written_number (Ok n) = n
written_number (Err row) = row.0 * 2 ^ 32

-- the merger's: row, edges, length
unfoldable pub merged_number : Result Merged Row → ℕ
merged_number (Ok merged) = merged.edges % 2 ^ 15 * 2 ^ 17 + merged.length % 2 ^ 17
merged_number (Err row) = row.0 * 2 ^ 32

-- a run's: the phase at its end, or 100 + the row; a list's own faults have numbers that no row has
unfoldable pub ran_number : Result Phase RunError → ℕ
ran_number (Ok phase) = phase_number (phase_is phase)
ran_number (Err (J.Refused row)) = (100 + row.0) % 2 ^ 32
ran_number (Err J.Uneven) = 201
ran_number (Err J.AnswersShort) = 202
ran_number (Err J.EndShort) = 203

-- a table's size: actions, variables, automata
unfoldable pub counted_number : Result TableSize Row → ℕ
counted_number (Ok size) = size.actions % 2 ^ 16 * 2 ^ 16 + size.variables % 2 ^ 8 * 2 ^ 8 + size.automata % 2 ^ 8
counted_number (Err row) = row.0 * 2 ^ 32
