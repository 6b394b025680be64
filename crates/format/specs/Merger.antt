-- The merger's answer: rows 18 and 19, then 31 to 35, or the merged text.
use Rattle.std.specs.Prelude.{ℕ, true, false, List}
use Rattle.std.proofs.Math.Option.{none, some}
use Rattle.model.specs.Model.{Model}
use Rattle.model.specs.Table.{unopened, opened, open_table}
use Rattle.model.specs.Linear.{linear, merged_count, merge_fault}
use Rattle.format.specs.Bytes.{Bytes}
use Rattle.format.specs.Spelling.{text_of}
use Rattle.format.specs.Writer.{row35, with_text}

-- the text and its count of edges; the length that is reported is the text's
pub data MergeAnswer : Type 0 where
  unmerged : (row : ℕ) → MergeAnswer
  merged : Bytes → (edges : ℕ) → MergeAnswer

unfoldable pub merge_model : Model → (buffer : ℕ) → MergeAnswer
merge_model m buffer =
    elim (merge_fault m) [
      | some row ↦ unmerged row
      | none ↦
          elim (row35 buffer (text_of (linear m))) [
            | true ↦ unmerged 35
            | false ↦ merged (text_of (linear m)) (merged_count m)
          ]
    ]

unfoldable pub merge_answer : List ℕ → (buffer : ℕ) → MergeAnswer
merge_answer table buffer = elim (open_table table) [ unopened row ↦ unmerged row | opened m ↦ merge_model m buffer ]

-- the lent buffer afterwards; after a refusal as it was
unfoldable pub merge_after : MergeAnswer → Bytes → Bytes
merge_after (unmerged row) lent = lent
merge_after (merged text edges) lent = with_text text lent
