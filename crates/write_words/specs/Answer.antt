-- What the writer answers.
use Rattle.std.specs.Prelude.{ℕ, ◌≤◌, ◌≡◌, true, false, List, length, take, Option, Result, Ok, Err}
use Rattle.model.specs.declared.Row.{Row}
use Rattle.model.specs.Row.{row}
use Rattle.format.specs.Bytes.{Bytes}
use Rattle.format.specs.Writer.{row35, WriteAnswer as Answer, unwritten, written, buffer_after}
use Rattle.text_bytes.specs.Write.{written_to}
use Rattle.write_words.specs.Text.{sheet_text}

-- the text t stands in the first bytes, which end where the answer says; or None, where there is no room for it
pub record Spelt (t : Bytes) (old new : Bytes) (r : Option ℕ) : Type 0 where
  pub answer : r ≡ written_to t 0 old
  pub text : length t ≤ length old → take (length t) new ≡ t
  pub long : length new ≡ length old

-- row 35, or the text
unfoldable pub copy_answer : Bytes → (buffer : ℕ) → Answer
copy_answer text buffer = elim (row35 buffer text) [ true ↦ unwritten 35 | false ↦ written text ]

-- the same where no buffer counts for more than `room` bytes: a text that is longer than that is refused by row 35 too
unfoldable pub room_answer : (room : ℕ) → Bytes → (buffer : ℕ) → Answer
room_answer room text buffer = elim (row35 room text) [ true ↦ unwritten 35 | false ↦ copy_answer text buffer ]

-- for words that are not checked: what they spell
abbrev pub words_answer : (room : ℕ) → List ℕ → (buffer : ℕ) → Answer
words_answer room ws buffer = room_answer room (sheet_text ws) buffer

-- an answer as the code gives it
unfoldable pub given : Answer → Result ℕ Row
given (unwritten n) = Err (row n)
given (written text) = Ok (length text)

-- the answer is a, and the lent buffer is as it is after a
pub record Answered (a : Answer) (old new : Bytes) (r : Result ℕ Row) : Type 0 where
  pub answer : r ≡ given a
  pub memory : new ≡ buffer_after a old
  pub long : length new ≡ length old
