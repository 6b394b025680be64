-- The merger's answers as the code gives them.
use Rattle.std.specs.Prelude.{ℕ, Result, Ok, Err, length}
use Rattle.format.specs.Merger as M
use Rattle.model.specs.declared.Row.{Row}
use Rattle.model.specs.Row.{row}
use Rattle.merger.specs.declared.Merged.{Merged}

-- what is reported of a text of this length with so many edges
abbrev pub report : (length edges : ℕ) → Merged
report n edges = record { length = n; edges = edges }

-- the length that is reported is that of the text, the count of edges the definition's
unfoldable pub merge_of : M.MergeAnswer → Result Merged Row
merge_of (M.unmerged n) = Err (row n)
merge_of (M.merged text edges) = Ok (report (length text) edges)

-- what the writer says, with a count of edges
unfoldable pub reported_of : Result ℕ Row → (edges : ℕ) → Result Merged Row
reported_of (Ok n) edges = Ok (report n edges)
reported_of (Err refusal) edges = Err refusal
