-- Demand 2 as one statement, ReadsAndWritesExactly. The law demand_2 says that it holds.
use Rattle.std.specs.Prelude.{ℕ, ◌≤◌, ◌≡◌, List, [], ◌∷◌, ◌++◌, ◌↔◌, length, take, drop, Ok}
use Rattle.model.specs.Bounds.{max_bytes, table_words}
use Rattle.model.specs.Model.{Model, Automaton}
use Rattle.model.specs.Lawful.{Lawful}
use Rattle.model.specs.Table.{table_of, opened, open_table}
use Rattle.format.specs.Bytes.{Bytes}
use Rattle.format.specs.Spelling.{text_of}
use Rattle.format.specs.Refused.{Unbroken}
use Rattle.format.specs.Reader.{accepted, read_answer, table_after}
use Rattle.format.specs.Writer.{written, write_answer}
use Rattle.format.specs.Merger.{merge_answer, merge_after}
use Rattle.format.specs.Program.{program_output}
use Rattle.theorem_definition4.specs.Definition4.{IsLinearization}
use Rattle.merger.specs.Answers.{report, merge_of}
use Rattle.merger.specs.Outcome.{outcome, outcome_after}
use Rattle.theorem_demands.specs.Rows.{merger_rows}
use Rattle.theorem_demands.specs.Order.{EdgesInOrder}

-- A text and a count of edges are those that merging sheet m gives.
pub record IsMergedText (m : Model) (text : Bytes) (edges : ℕ) : Type 0 where
  -- it is the text of a sheet
  pub sheet : Model
  pub spelled : text ≡ text_of sheet
  -- as which the reader accepts it
  pub readable : read_answer text table_words ≡ accepted sheet
  -- the sheet is the linearization of m by Definition 4
  pub definition_4 : IsLinearization m sheet
  -- with its one automaton
  pub automaton : Automaton
  pub one : sheet.automata ≡ automaton ∷ []
  -- whose edges stand in the paper's order, equal ones once
  pub in_order : EdgesInOrder m automaton.edges
  -- and are so many
  pub counted : edges ≡ length automaton.edges

-- A buffer with a merged text in it, of the length and with the count of edges that are reported.
pub record MergedInto (m : Model) (bytes edges : ℕ) (after : Bytes) : Type 0 where
  -- the first `bytes` bytes are the text
  pub is_merged : IsMergedText m (take bytes after) edges
  -- which has this length
  pub its_length : length (take bytes after) ≡ bytes

-- Demand 2: texts, tables and merged texts.
pub record ReadsAndWritesExactly : Type 0 where
  -- the reader accepts exactly the texts of sheets within the limits, if the table has room
  pub accepts : (text : Bytes) (table : ℕ) (m : Model)
      → (read_answer text table ≡ accepted m) ↔ ((table_words ≤ table) × Lawful m × (text ≡ text_of m))
  -- it gives each its table,
  pub its_table : (text : Bytes) (lent : List ℕ) (m : Model) → read_answer text (length lent) ≡ accepted m
      → take table_words (table_after text lent) ≡ table_of m
  -- which is one, whatever was lent, and no other text's
  pub one_table : (text text' : Bytes) (lent lent' : List ℕ) (m m' : Model)
      → read_answer text (length lent) ≡ accepted m → read_answer text' (length lent') ≡ accepted m'
      → (take table_words (table_after text lent) ≡ take table_words (table_after text' lent')) ↔ (text ≡ text')
  -- the writer gives the text back
  pub writes_back : (text : Bytes) (lent : List ℕ) (m : Model) → read_answer text (length lent) ≡ accepted m
      → (buffer : ℕ) → length text ≤ buffer
      → write_answer (table_after text lent) buffer ≡ written text
  -- and what it writes from any table is read back into that table
  pub reads_back : (table : List ℕ) (buffer : ℕ) (text : Bytes) → write_answer table buffer ≡ written text
      → (lent : List ℕ) → table_words ≤ length lent
      → table_after text lent ≡ take table_words table ++ drop table_words lent
  -- what the merger writes, with the length and the count that it reports, is the merged text of the table's sheet
  pub merges : (table : List ℕ) (lent : Bytes) (bytes edges : ℕ)
      → merge_of (merge_answer table (length lent)) ≡ Ok (report bytes edges)
      → (m : Model) × (open_table table ≡ opened m)
      × MergedInto m bytes edges (merge_after (merge_answer table (length lent)) lent)
  -- from text to text likewise
  pub linearizes : (text lent : Bytes) (bytes edges : ℕ) → outcome text (length lent) ≡ Ok (report bytes edges)
      → (m : Model) × Lawful m × (text ≡ text_of m) × MergedInto m bytes edges (outcome_after text lent)
  -- and what the program prints, if no row refuses the sheet
  pub prints : (m : Model) → Lawful m → Unbroken (merger_rows max_bytes m)
      → (edges : ℕ) × IsMergedText m (program_output (text_of m)) edges
  -- a sheet has one merged text only, with one count
  pub one_merged : (m : Model) (text text' : Bytes) (edges edges' : ℕ)
      → IsMergedText m text edges → IsMergedText m text' edges'
      → (text ≡ text') × (edges ≡ edges')
