-- From a sheet text to its merged text: the reader's refusal, or what the merger says of the table that was read.
use Rattle.std.specs.Prelude.{ℕ, Result, Ok, Err, length}
use Rattle.model.specs.Bounds.{table_words}
use Rattle.model.specs.Table.{table_of}
use Rattle.format.specs.Bytes.{Bytes}
use Rattle.format.specs.Reader.{refused, accepted, read_answer}
use Rattle.format.specs.Merger.{merge_answer, merge_after}
use Rattle.model.specs.declared.Row.{Row}
use Rattle.reader.specs.declared.Refusal.{Refusal}
use Rattle.reader.specs.Read.{refusal}
use Rattle.merger.specs.declared.Merged.{Merged}
use Rattle.merger.specs.Answers.{merge_of}

-- a refusal of the merger's has line 0
unfoldable pub passed_on : Result Merged Row → Result Merged Refusal
passed_on (Ok m) = Ok m
passed_on (Err r) = Err (record { row = r; line = 0 })

unfoldable pub outcome : Bytes → (buffer : ℕ) → Result Merged Refusal
outcome text buffer =
    elim (read_answer text table_words) [
      | refused n line ↦ Err (refusal n line)
      | accepted m ↦ passed_on (merge_of (merge_answer (table_of m) buffer))
    ]

-- the lent buffer afterwards; after a refusal as it was
unfoldable pub outcome_after : Bytes → Bytes → Bytes
outcome_after text lent =
    elim (read_answer text table_words) [
      | refused n line ↦ lent
      | accepted m ↦ merge_after (merge_answer (table_of m) (length lent)) lent
    ]
