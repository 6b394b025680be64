-- The writer's answer: rows 18, 19 and 35, or the text.
use Rattle.std.specs.Prelude.{ℕ, Bool, true, false, List, ◌++◌, length, drop, ltb}
use Rattle.model.specs.Table.{unopened, opened, open_table}
use Rattle.format.specs.Bytes.{Bytes}
use Rattle.format.specs.Spelling.{text_of}

-- Row 35: does a text fit into a lent buffer of so many bytes?
unfoldable pub row35 : (buffer : ℕ) → Bytes → Bool
row35 buffer text = ltb buffer (length text)

-- what was written; the length that is reported is its length
pub data WriteAnswer : Type 0 where
  unwritten : (row : ℕ) → WriteAnswer
  written : Bytes → WriteAnswer

unfoldable pub write_answer : List ℕ → (buffer : ℕ) → WriteAnswer
write_answer table buffer =
    elim (open_table table) [
      | unopened row ↦ unwritten row
      | opened m ↦ elim (row35 buffer (text_of m)) [ true ↦ unwritten 35 | false ↦ written (text_of m) ]
    ]

-- a lent buffer with a text put into its first bytes
unfoldable pub with_text : Bytes → Bytes → Bytes
with_text text lent = text ++ drop (length text) lent

-- the lent buffer afterwards; after a refusal as it was
unfoldable pub buffer_after : WriteAnswer → Bytes → Bytes
buffer_after (unwritten row) lent = lent
buffer_after (written text) lent = with_text text lent
