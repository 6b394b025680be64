-- The reader's answer: rows 18 and 1 are tried before any line; after that the first line with a fault decides.
use Rattle.std.specs.Prelude.{ℕ, suc, ◌≡◌, Bool, true, false, List, [], ◌∷◌, ◌++◌, length, take, drop, eqb, ltb}
use Rattle.std.proofs.Math.Option.{none, some}
use Rattle.model.specs.Bounds.{max_bytes, table_words}
use Rattle.model.specs.Model.{Model}
use Rattle.model.specs.Lines.{Key, due_at_first, then_due, Reading, at_first, with_owner, noted}
use Rattle.model.specs.Table.{table_of, row18}
use Rattle.format.specs.Bytes.{Bytes, LF}
use Rattle.format.specs.Spelling.{Behind, nothing, owner, list, behind}
use Rattle.format.specs.Rows.{Line, fault, entry}
use Rattle.format.specs.Writes.{writes_fault}
use Rattle.format.specs.Owners.{owner_fault, the_owner}

-- the lines of a text; a last one without its LF is one too
unfoldable pub onto_line : ℕ → List Line → List Line
onto_line b [] = record { bytes = b ∷ []; ended = false } ∷ []
onto_line b (l ∷ ls) = record { bytes = b ∷ l.bytes; ended = l.ended } ∷ ls

unfoldable pub lines_of : Bytes → List Line
lines_of [] = []
lines_of (b ∷ t) =
    elim (eqb b LF) [ true ↦ record { bytes = []; ended = true } ∷ lines_of t | false ↦ onto_line b (lines_of t) ]

-- a refusal has its row and its line: 0 for rows 18 and 1, and counted from 1 for the others; an acceptance has its
-- model
pub data ReadAnswer : Type 0 where
  refused : (row line : ℕ) → ReadAnswer
  accepted : Model → ReadAnswer

-- the lines from number n on against what is due: what stands behind the entry before, if something does, and then the
-- keys; too few lines, or too many, are row 2 at the place where it shows
unfoldable pub read : Behind → Reading → List Key → ℕ → List Line → ReadAnswer
read (list vs) r ks n [] = refused 2 n
read (list vs) r ks n (l ∷ ls) =
    elim (writes_fault r vs l) [ some row ↦ refused row n | none ↦ read nothing r ks (suc n) ls ]
read owner r ks n [] = refused 2 n
read owner r ks n (l ∷ ls) =
    elim (owner_fault l) [ some row ↦ refused row n | none ↦ read nothing (with_owner r (the_owner l)) ks (suc n) ls ]
read nothing r [] n [] = accepted r.model
read nothing r [] n (l ∷ ls) = refused 2 n
read nothing r (k ∷ ks) n [] = refused 2 n
read nothing r (k ∷ ks) n (l ∷ ls) =
    elim (fault r k l) [
      | some row ↦ refused row n
      | none ↦
          read (behind r.model.format (entry k l)) (noted r (entry k l))
          (then_due r.model.format (entry k l) ++ ks) (suc n) ls
    ]

-- Row 1: more bytes than a text may have.
unfoldable pub row1 : Bytes → Bool
row1 text = ltb max_bytes (length text)

-- the answer, when the table that is lent has so many words
unfoldable pub read_answer : Bytes → (table : ℕ) → ReadAnswer
read_answer text table =
    elim (row18 table) [
      | true ↦ refused 18 0
      | false ↦ elim (row1 text) [ true ↦ refused 1 0 | false ↦ read nothing at_first due_at_first 1 (lines_of text) ]
    ]

-- the lent table afterwards: the model's table and its old rest, or, after a refusal, as it was
unfoldable pub table_after : Bytes → List ℕ → List ℕ
table_after text lent =
    elim (read_answer text (length lent)) [ refused row line ↦ lent | accepted m ↦ table_of m ++ drop table_words lent ]

-- what row 19 denies: there is a text that the reader accepts and that has this table (the law given_by_text)
pub record GivenBy (t : List ℕ) : Type 0 where
  pub text : Bytes
  pub model : Model
  pub reads : read_answer text table_words ≡ accepted model
  pub gives : take table_words t ≡ table_of model
