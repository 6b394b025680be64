-- Answers as one number, for callers in C and Rust: what the definitions answer. The parts stay apart, for a text has
-- no more lines than bytes and one (the law line_fits), no more than 65,536 bytes and 512 edges (merge_fits), and a
-- sheet no more than 63 actions, 48 variables and 16 automata (size_few). (The judges' numbers are `answer_number` of
-- judge_call.)
use Rattle.std.specs.Prelude.{ℕ, ◌+◌, ◌*◌, ◌^◌, length}
use Rattle.model.specs.Runs.{phase_number}
use Rattle.model.specs.Table.{Opened, unopened, opened}
use Rattle.format.specs.Merger as Merger
use Rattle.format.specs.Reader as Reader
use Rattle.format.specs.Writer.{WriteAnswer, unwritten, written}
use Rattle.judge.specs.RunAnswer.{RunAnswer, not_run, uneven, answers_short, end_short, ran}

-- the reader's: row * 2^32 + line. A text that is accepted has neither.
unfoldable pub read_number : Reader.ReadAnswer → ℕ
read_number (Reader.refused row line) = row * 2 ^ 32 + line
read_number (Reader.accepted m) = 0

-- the writer's: row * 2^32 + length. A refusal has no length, and a text no row.
unfoldable pub write_number : WriteAnswer → ℕ
write_number (written text) = length text
write_number (unwritten row) = row * 2 ^ 32

-- the merger's: row * 2^32 + edges * 2^17 + length
unfoldable pub merge_number : Merger.MergeAnswer → ℕ
merge_number (Merger.unmerged row) = row * 2 ^ 32
merge_number (Merger.merged text edges) = edges * 2 ^ 17 + length text

-- a run's: the phase at its end, or 100 + the row that refuses it. The list's own faults have numbers that no row has.
unfoldable pub run_number : RunAnswer → ℕ
run_number (ran r) = phase_number r.end.phase
run_number (not_run row) = 100 + row
run_number uneven = 201
run_number answers_short = 202
run_number end_short = 203

-- the numbers of a table: A * 2^16 + V * 2^8 + N
unfoldable pub size_number : Opened → ℕ
size_number (unopened row) = row * 2 ^ 32
size_number (opened m) = m.actions * 2 ^ 16 + length m.variables * 2 ^ 8 + length m.automata
