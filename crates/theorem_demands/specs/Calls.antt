-- Demand 1 as one statement, EveryCallAnswers: what each public call of the tool answers, and what it leaves in memory
-- that is lent to it. The law demand_1 says that it holds.
use Rattle.std.specs.Prelude.{ℕ, ◌≤◌, ◌≡◌, Bool, true, List, ◌↔◌, ◌⊎◌, ℤ, length, take, drop, Ok, Err}
use Rattle.std.proofs.Math.Option.{some}
use Rattle.model.specs.Bounds.{max_bytes, table_words}
use Rattle.model.specs.Model.{Model}
use Rattle.model.specs.Table.{table_of, row19, opened, open_table}
use Rattle.model.specs.Rules.{Phase, State, reached, Step, Environment}
use Rattle.model.specs.Judge as J
use Rattle.model.specs.Judge.{Answer, marked, yes, no, phase_of, step_answer, environment_answer}
use Rattle.format.specs.Bytes.{Bytes}
use Rattle.format.specs.Refused.{Conditions, Unbroken, Smallest}
use Rattle.format.specs.Reader.{refused, accepted, read_answer, table_after, GivenBy}
use Rattle.format.specs.Writer.{unwritten, written, write_answer, buffer_after}
use Rattle.format.specs.Merger.{unmerged, merged, merge_answer, merge_after}
use Rattle.format.specs.Program.{refusal, program_output}
use Rattle.reader.specs.Read.{refusal as refused_at}
use Rattle.merger.specs.Answers.{report}
use Rattle.merger.specs.Outcome.{outcome, outcome_after}
use Rattle.theorem_demands.specs.Rows.{FirstFault, TextFault, table_rows, writer_rows, merger_rows, step_rows}
use Rattle.theorem_demands.specs.Rows.{environment_rows}

-- Lent memory after an acceptance: the first places have what was to go there, every other place what it had.
pub record PutInto {A : Type 0} (lent content after : List A) : Type 0 where
  -- the memory has so many places
  pub room : length content ≤ length lent
  -- the first ones have the content
  pub placed : take (length content) after ≡ content
  -- the others have what they had
  pub others : drop (length content) after ≡ drop (length content) lent
  -- and there are as many as before
  pub same_length : length after ≡ length lent

-- reader::read
pub record ReadCall (text : Bytes) (lent : List ℕ) : Type 0 where
  -- a row with its line is answered exactly when its condition is the first that holds
  pub refused_exactly : (row line : ℕ)
      → (read_answer text (length lent) ≡ refused row line) ↔ FirstFault text (length lent) row line
  -- the text is accepted exactly when no row's condition holds
  pub accepted_exactly : ((m : Model) × (read_answer text (length lent) ≡ accepted m))
      ↔ ((row line : ℕ) → FirstFault text (length lent) row line → ⊥)
  -- a refusal leaves the table as it was
  pub refused_keeps : (row line : ℕ) → read_answer text (length lent) ≡ refused row line → table_after text lent ≡ lent
  -- an acceptance puts the sheet's table into the first words, and changes no other
  pub accepted_puts : (m : Model) → read_answer text (length lent) ≡ accepted m
      → PutInto lent (table_of m) (table_after text lent)
  -- these are 16,384
  pub words_put : (m : Model) → read_answer text (length lent) ≡ accepted m → length (table_of m) ≡ table_words

-- writer::write, which is also reader::write
pub record WriteCall (table : List ℕ) (lent : Bytes) : Type 0 where
  -- a row is answered exactly when its condition holds and no smaller row's does
  pub refused_exactly : (row : ℕ)
      → (write_answer table (length lent) ≡ unwritten row) ↔ Smallest (table_rows (writer_rows (length lent)) table) row
  -- a text is written exactly when no row's condition holds
  pub accepted_exactly : ((text : Bytes) × (write_answer table (length lent) ≡ written text))
      ↔ Unbroken (table_rows (writer_rows (length lent)) table)
  -- a refusal leaves the buffer as it was
  pub refused_keeps : (row : ℕ) → write_answer table (length lent) ≡ unwritten row
      → buffer_after (write_answer table (length lent)) lent ≡ lent
  -- an acceptance puts the text into the first bytes, and changes no other
  pub accepted_puts : (text : Bytes) → write_answer table (length lent) ≡ written text
      → PutInto lent text (buffer_after (write_answer table (length lent)) lent)

-- merger::merge
pub record MergeCall (table : List ℕ) (lent : Bytes) : Type 0 where
  -- a row is answered exactly when its condition holds and no smaller row's does
  pub refused_exactly : (row : ℕ)
      → (merge_answer table (length lent) ≡ unmerged row) ↔ Smallest (table_rows (merger_rows (length lent)) table) row
  -- a merged text is given exactly when no row's condition holds
  pub accepted_exactly : ((text : Bytes) × (edges : ℕ) × (merge_answer table (length lent) ≡ merged text edges))
      ↔ Unbroken (table_rows (merger_rows (length lent)) table)
  -- a refusal leaves the buffer as it was
  pub refused_keeps : (row : ℕ) → merge_answer table (length lent) ≡ unmerged row
      → merge_after (merge_answer table (length lent)) lent ≡ lent
  -- an acceptance puts the merged text into the first bytes, and changes no other
  pub accepted_puts : (text : Bytes) (edges : ℕ) → merge_answer table (length lent) ≡ merged text edges
      → PutInto lent text (merge_after (merge_answer table (length lent)) lent)

-- merger::merge_text, from a text to its merged text
pub record TextCall (text lent : Bytes) : Type 0 where
  -- a row with its line is answered exactly when its condition is the first that holds
  pub refused_exactly : (row line : ℕ)
      → (outcome text (length lent) ≡ Err (refused_at row line)) ↔ TextFault text (length lent) row line
  -- a merged text is given exactly when no row's condition holds
  pub accepted_exactly : ((bytes edges : ℕ) × (outcome text (length lent) ≡ Ok (report bytes edges)))
      ↔ ((row line : ℕ) → TextFault text (length lent) row line → ⊥)
  -- a refusal leaves the buffer as it was
  pub refused_keeps : (row line : ℕ) → outcome text (length lent) ≡ Err (refused_at row line)
      → outcome_after text lent ≡ lent
  -- an acceptance puts a text of the length that it reports into the first bytes, and changes no other
  pub accepted_puts : (bytes edges : ℕ) → outcome text (length lent) ≡ Ok (report bytes edges)
      → (text' : Bytes) × (length text' ≡ bytes) × PutInto lent text' (outcome_after text lent)

-- judge::step, by its rows, its answer, and when the rules allow the step; it gets no memory that it could write to
pub record StepCall (rows : Conditions) (answer : Answer) (Allowed : (mark : Bool) → Type 0) : Type 0 where
  -- a row is answered exactly when its condition holds and no smaller row's does
  pub refused_exactly : (row : ℕ) → (answer ≡ J.refused row) ↔ Smallest rows row
  -- otherwise no, or yes with a mark
  pub judged_exactly : ((answer ≡ no) ⊎ ((mark : Bool) × (answer ≡ marked mark))) ↔ Unbroken rows
  -- yes with a mark exactly when the rules allow the step with it
  pub marked_exactly : (mark : Bool) → (answer ≡ marked mark) ↔ (Unbroken rows × Allowed mark)
  -- no exactly when they allow it with none
  pub no_exactly : (answer ≡ no) ↔ (Unbroken rows × ((mark : Bool) → Allowed mark → ⊥))

-- judge::environment likewise
pub record EnvironmentCall (rows : Conditions) (answer : Answer) (Allowed : Type 0) : Type 0 where
  -- a row is answered exactly when its condition holds and no smaller row's does
  pub refused_exactly : (row : ℕ) → (answer ≡ J.refused row) ↔ Smallest rows row
  -- otherwise no or yes
  pub judged_exactly : ((answer ≡ no) ⊎ (answer ≡ yes)) ↔ Unbroken rows
  -- yes exactly when the rules allow the change
  pub yes_exactly : (answer ≡ yes) ↔ (Unbroken rows × Allowed)
  -- no exactly when they do not
  pub no_exactly : (answer ≡ no) ↔ (Unbroken rows × (Allowed → ⊥))

-- the rules allow something from the state that a call gives, of the sheet whose table it is
pub record FromState (table : List ℕ) (phase : ℕ) (locations : List ℕ) (values : List ℤ)
    (Allow : Model → State → Type 0) : Type 0 where
  -- the table's sheet
  pub model : Model
  pub opens : open_table table ≡ opened model
  -- the phase that the number names
  pub in_phase : Phase
  pub names : phase_of phase ≡ some in_phase
  -- they allow it there
  pub allow : Allow model (record { phase = in_phase; locations = locations; values = values })

-- Demand 1, for every input, damaged texts and tables included.
pub record EveryCallAnswers : Type 0 where
  -- a text is read into a table
  pub reads : (text : Bytes) (lent : List ℕ) → ReadCall text lent
  -- a table's text is written into a buffer
  pub writes : (table : List ℕ) (lent : Bytes) → WriteCall table lent
  -- its merged text is
  pub merges : (table : List ℕ) (lent : Bytes) → MergeCall table lent
  -- the merged text of a text is
  pub linearizes : (text lent : Bytes) → TextCall text lent
  -- the program (merge_output::output) prints a refusal with its row and line, where there is one
  pub prints : (text : Bytes) (row line : ℕ) → TextFault text max_bytes row line
      → program_output text ≡ refusal row line
  -- a step is judged
  pub judges_steps : (table : List ℕ) (phase : ℕ) (locations : List ℕ) (values : List ℤ)
      → (action : ℕ) (locations' : List ℕ) (values' : List ℤ)
      → StepCall (table_rows (step_rows phase locations values action locations' values') table)
      (step_answer table phase locations values action locations' values')
      (λ mark. FromState table phase locations values (λ m s. Step m s action (reached locations' values') mark))
  -- an environment step is judged
  pub judges_environment : (table : List ℕ) (phase : ℕ) (locations : List ℕ) (values values' : List ℤ)
      → EnvironmentCall (table_rows (environment_rows phase locations values values') table)
      (environment_answer table phase locations values values')
      (FromState table phase locations values (λ m s. Environment m s values'))
  -- row 19's condition: no accepted text gives the table
  pub row_19 : (table : List ℕ) → (row19 table ≡ true) ↔ (GivenBy table → ⊥)
