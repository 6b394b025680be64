-- A case asks the definitions something and says what they must answer. A table of cases is proved by computing that none
-- of them fails.
use Prim.Native.Nat.{ℕ, zero, suc}
use mathlib.Core.Bool.{Bool, true, false, not, ◌&&◌}
use mathlib.Core.List.{List, [], ◌∷◌, ◌++◌}
use lib.Dec.{eqb}
use Rattle.model.specs.Basic.{keep, same, count_up}
use Rattle.model.specs.Bounds.{table_words}
use Rattle.model.specs.Model.{in_set}
use Rattle.model.specs.Table.{table_of}
use Rattle.model.specs.Judge as Judge
use Rattle.model.specs.Judge.{Answer, marked, yes, no, Call, answer_to}
use Rattle.format.specs.Bytes.{Bytes, LF}
use Rattle.format.specs.Reader.{refused, accepted, read_answer}
use Rattle.format.specs.Writer.{unwritten, written, write_answer}
use Rattle.format.specs.Merger.{unmerged, merged, merge_answer}
use Rattle.format.specs.Program.{program_output}

-- lines to a text; a piece so many times
abbrev pub sheet : List Bytes → Bytes
sheet [] = []
sheet (l ∷ ls) = l ++ LF ∷ sheet ls

abbrev pub times : ℕ → Bytes → Bytes
times zero s = []
times (suc n) s = s ++ times n s

pub data Case : Type 0 where
  -- the reader accepts a text; refuses it, with row and line
  accepts : Bytes → Case
  refuses : Bytes → (row line : ℕ) → Case
  -- the reader with a lent table of so many words refuses
  refuses_table : Bytes → (words row line : ℕ) → Case
  -- the actions in the set of an accepted text's composition
  set_is : Bytes → List ℕ → Case
  -- a judge's answer on the table of an accepted text; on a table
  answers : Bytes → Call → Answer → Case
  answers_table : List ℕ → Call → Answer → Case
  -- the program's output for a text
  prints : Bytes → Bytes → Case
  -- the writer and the merger, for a table and a buffer of so many bytes, write a text (with so many edges)
  writes : List ℕ → (buffer : ℕ) → Bytes → Case
  merges : List ℕ → (buffer : ℕ) → Bytes → (edges : ℕ) → Case
  -- and refuse
  refuses_write : List ℕ → (buffer row : ℕ) → Case
  refuses_merge : List ℕ → (buffer row : ℕ) → Case

unfoldable pub same_bool : Bool → Bool → Bool
same_bool true b = b
same_bool false b = not b

unfoldable pub same_answer : Answer → Answer → Bool
same_answer (marked a) (marked b) = same_bool a b
same_answer (marked a) yes = false
same_answer (marked a) no = false
same_answer (marked a) (Judge.refused j) = false
same_answer yes (marked b) = false
same_answer yes yes = true
same_answer yes no = false
same_answer yes (Judge.refused j) = false
same_answer no (marked b) = false
same_answer no yes = false
same_answer no no = true
same_answer no (Judge.refused j) = false
same_answer (Judge.refused i) (marked b) = false
same_answer (Judge.refused i) yes = false
same_answer (Judge.refused i) no = false
same_answer (Judge.refused i) (Judge.refused j) = eqb i j

-- the table of a text, none if it is refused
unfoldable pub table_of_text : Bytes → List ℕ
table_of_text text = elim (read_answer text table_words) [ refused row line ↦ [] | accepted m ↦ table_of m ]

unfoldable pub refused_with : Bytes → (words row line : ℕ) → Bool
refused_with text words row line = elim (read_answer text words) [ refused i n ↦ eqb i row && eqb n line | accepted m ↦ false ]

unfoldable pub passes : Case → Bool
passes (accepts text) = elim (read_answer text table_words) [ refused row line ↦ false | accepted m ↦ true ]
passes (refuses text row line) = refused_with text table_words row line
passes (refuses_table text words row line) = refused_with text words row line
passes (set_is text list) =
    elim (read_answer text table_words) [
      | refused row line ↦ false
      | accepted m ↦ same list (keep (λ a. in_set m a m.tree) (count_up 0 (suc m.actions)))
    ]
passes (answers text call answer) = same_answer answer (answer_to (table_of_text text) call)
passes (answers_table table call answer) = same_answer answer (answer_to table call)
passes (prints text output) = same output (program_output text)
passes (writes table buffer text) = elim (write_answer table buffer) [ unwritten i ↦ false | written t ↦ same t text ]
passes (merges table buffer text edges) = elim (merge_answer table buffer) [ unmerged i ↦ false | merged t n ↦ same t text && eqb n edges ]
passes (refuses_write table buffer row) = elim (write_answer table buffer) [ unwritten i ↦ eqb i row | written text ↦ false ]
passes (refuses_merge table buffer row) = elim (merge_answer table buffer) [ unmerged i ↦ eqb i row | merged text edges ↦ false ]

-- the cases that fail, by their place in the table
unfoldable pub failing : ℕ → List Case → List ℕ
failing n [] = []
failing n (c ∷ cs) = elim (passes c) [ true ↦ failing (suc n) cs | false ↦ n ∷ failing (suc n) cs ]
