-- "Refused": the rows of each call, by their numbers, with their conditions. The smallest whose condition holds is
-- answered; only the reader tries 18 before 1, and line after line.
use Rattle.std.specs.Prelude.{ℕ, ◌≤◌, ◌<◌, ◌≡◌, Bool, not, ◌&&◌, ◌||◌, List, [], ◌∷◌, ℤ, length, eqb, ltb}
use Rattle.std.proofs.Math.Option.{Option, none, some}
use Rattle.model.specs.Bounds.{max_bytes, max_edges, table_words}
use Rattle.model.specs.Model.{Model}
use Rattle.model.specs.Lines.{at_first, due_at_first}
use Rattle.model.specs.Table.{model_of, row18, row19}
use Rattle.model.specs.Rules.{reached}
use Rattle.model.specs.Linear.{linear, merged_edges, row31, row33, row34}
use Rattle.model.specs.Judge.{row21, row22, row23, row24}
use Rattle.format.specs.Bytes.{Bytes}
use Rattle.format.specs.Spelling.{nothing, text_of}
use Rattle.format.specs.Reader.{accepted, lines_of, read_answer}
use Rattle.format.specs.Writer.{row35}
use Rattle.format.specs.Refused.{Conditions, Smallest, Stops}

-- The reader, with a lent table of so many words: 18, then 1, then the lines, where the first faulty one counts, and in
-- it the smallest row (Stops).
pub data FirstFault (text : Bytes) (table : ℕ) : (row line : ℕ) → Type 0 where
  by_18 : table < table_words → FirstFault text table 18 0
  by_1 : table_words ≤ table → max_bytes < length text → FirstFault text table 1 0
  by_line : {row line : ℕ} → table_words ≤ table → length text ≤ max_bytes
      → Stops nothing at_first due_at_first (lines_of text) row line
      → FirstFault text table row line

-- The others try 18, 19, then their own rows. These are about the sheet whose table it is; a table of row 19 has none.
unfoldable pub own_rows : (Model → Conditions) → Option Model → Conditions
own_rows own none = []
own_rows own (some m) = own m

unfoldable pub table_rows : (own : Model → Conditions) → List ℕ → Conditions
table_rows own t = (18, row18 (length t)) ∷ (19, row19 t) ∷ own_rows own (model_of t)

-- the writer's own row, with a buffer of so many bytes
unfoldable pub writer_rows : (buffer : ℕ) → Model → Conditions
writer_rows buffer m = (35, row35 buffer (text_of m)) ∷ []

-- Row 32: more than 512 merged edges.
unfoldable pub row32 : Model → Bool
row32 m = ltb max_edges (length (merged_edges m))

-- the merger's
unfoldable pub merger_rows : (buffer : ℕ) → Model → Conditions
merger_rows buffer m =
    (31, row31 m) ∷ (32, row32 m) ∷ (33, row33 m) ∷ (34, row34 m) ∷ (35, row35 buffer (text_of (linear m))) ∷ []

-- from text to text: the reader's fault, or on an accepted text the smallest of the merger's own rows, with line 0
pub data TextFault (text : Bytes) (buffer : ℕ) : (row line : ℕ) → Type 0 where
  of_text : {row line : ℕ} → FirstFault text table_words row line → TextFault text buffer row line
  of_merge : {m : Model} {row : ℕ} → read_answer text table_words ≡ accepted m → Smallest (merger_rows buffer m) row
      → TextFault text buffer row 0

-- Row 20: the phase is neither 0 nor 1.
unfoldable pub row20 : ℕ → Bool
row20 phase = not (eqb phase 0) && not (eqb phase 1)

-- the step judge's: rows 21 to 23 are about the old lists and the new, whatever the phase
unfoldable pub step_rows : (phase : ℕ) → List ℕ → List ℤ → (action : ℕ) → List ℕ → List ℤ → Model → Conditions
step_rows phase locations values action new_locations new_values m =
    let s = reached locations values in
    let t = reached new_locations new_values in
    (20, row20 phase) ∷ (21, row21 m s || row21 m t) ∷ (22, row22 m s || row22 m t) ∷ (23, row23 m s || row23 m t) ∷
    (24, row24 m action) ∷ []

-- the environment judge's, which has one list of locations and no action
unfoldable pub environment_rows : (phase : ℕ) → List ℕ → List ℤ → List ℤ → Model → Conditions
environment_rows phase locations values new_values m =
    let s = reached locations values in
    let t = reached locations new_values in
    (20, row20 phase) ∷ (21, row21 m s || row21 m t) ∷ (22, row22 m s) ∷ (23, row23 m s || row23 m t) ∷ []
