-- What the program writes; and, for trying out sheets, the judges' answers on a text.
use Rattle.std.specs.Prelude.{ℕ, List, ◌++◌, map}
use Rattle.std.proofs.Math.Option.{Option, none, some}
use Rattle.model.specs.Bounds.{max_bytes, table_words}
use Rattle.model.specs.Table.{table_of}
use Rattle.model.specs.Judge.{Answer, Call, answer_to}
use Rattle.format.specs.Bytes.{Bytes, bytes}
use Rattle.format.specs.Number.{decimal}
use Rattle.format.specs.Reader.{refused, accepted, read_answer}
use Rattle.format.specs.Merger.{MergeAnswer, unmerged, merged, merge_answer}

-- a refusal as the program prints it; the merger's have line 0
unfoldable pub refusal : ℕ → ℕ → Bytes
refusal row line = bytes "refused=" ++ (decimal row ++ (bytes "," ++ (decimal line ++ bytes "\n")))

unfoldable pub merge_output : MergeAnswer → Bytes
merge_output (unmerged row) = refusal row 0
merge_output (merged text edges) = text

unfoldable pub program_output : Bytes → Bytes
program_output text =
    elim (read_answer text table_words) [
      | refused row line ↦ refusal row line
      | accepted m ↦ merge_output (merge_answer (table_of m) max_bytes)
    ]

-- the judges' answers to a list of calls, on the table of an accepted text
unfoldable pub answers_on_text : Bytes → List Call → Option (List Answer)
answers_on_text text calls =
    elim (read_answer text table_words) [
      | refused row line ↦ none
      | accepted m ↦ some (map (answer_to (table_of m)) calls)
    ]
