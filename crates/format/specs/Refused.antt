-- "Refused": which row refuses a text, said of the rows' conditions alone. That the reader answers so is the law
-- refusal_first.
use Rattle.std.specs.Prelude.{ℕ, suc, ◌<◌, Bool, true}
use mathlib.Core.List.{List, [], ◌∷◌, ◌++◌, Memᴰ}
use Rattle.model.specs.Lines.{Key, Reading, with_owner, noted, then_due}
use Rattle.format.specs.Rows.{Line, entry, row2, row3, row4, row5, row6, row7, row8, row9, row10, row11, row12}
use Rattle.format.specs.Rows.{row13, row14, row15, row16, row50}
use Rattle.format.specs.Spelling.{Behind, nothing, owner, list, behind}
use Rattle.format.specs.Writes.{writes_row2, writes_row3, writes_row5, writes_row7, row44, row51}
use Rattle.format.specs.Owners.{owner_row2, owner_row3, the_owner}

-- rows by their numbers, each with whether its condition holds
abbrev pub Conditions : Type 0
Conditions = List (ℕ × Bool)

-- no row's condition holds
pub record Unbroken (rows : Conditions) : Type 0 where
  pub none_holds : (row : ℕ) → Memᴰ (row, true) rows → ⊥

-- this row's condition holds, and no smaller row's
pub record Smallest (rows : Conditions) (row : ℕ) : Type 0 where
  pub holds : Memᴰ (row, true) rows
  pub none_smaller : (other : ℕ) → other < row → Memᴰ (other, true) rows → ⊥

-- the rows of a line, by what was read before it and by the key that is due
unfoldable pub line_rows : Reading → Key → Line → Conditions
line_rows r k l =
    (2, row2 k l) ∷ (3, row3 k l) ∷ (4, row4 k l) ∷ (5, row5 r k l) ∷ (6, row6 k l) ∷
    (7, row7 r k l) ∷ (8, row8 k l) ∷ (9, row9 k l) ∷ (10, row10 r k l) ∷ (11, row11 r k l) ∷
    (12, row12 r k l) ∷ (13, row13 k l) ∷ (14, row14 r k l) ∷ (15, row15 r k l) ∷ (16, row16 k l) ∷
    (50, row50 r k l) ∷ []

-- the rows of the line with the list behind an edge
unfoldable pub writes_rows : Reading → (due : List ℕ) → Line → Conditions
writes_rows r due l =
    (2, writes_row2 l) ∷ (3, writes_row3 l) ∷ (5, writes_row5 l) ∷ (7, writes_row7 r l) ∷ (44, row44 due l) ∷
    (51, row51 r l) ∷ []

-- the rows of the line with the owner behind a variable
unfoldable pub owner_rows : Line → Conditions
owner_rows l = (2, owner_row2 l) ∷ (3, owner_row3 l) ∷ []

-- Reading the lines, from what has been read and with what is due, stops with a row at the n-th of them: that line is
-- extra or lacking (row 2), or the row is the smallest whose condition holds there; and at no line before it does a
-- row's condition hold. Due are what stands behind the entry before, if something does, and the keys to come.
pub data Stops : Behind → Reading → List Key → List Line → (row n : ℕ) → Type 0 where
  extra : {r : Reading} {l : Line} {ls : List Line} → Stops nothing r [] (l ∷ ls) 2 1
  lacking : {r : Reading} {k : Key} {ks : List Key} → Stops nothing r (k ∷ ks) [] 2 1
  faulty : {r : Reading} {k : Key} {ks : List Key} {l : Line} {ls : List Line} {row : ℕ}
      → Smallest (line_rows r k l) row → Stops nothing r (k ∷ ks) (l ∷ ls) row 1
  later : {r : Reading} {k : Key} {ks : List Key} {l : Line} {ls : List Line} {row n : ℕ} → Unbroken (line_rows r k l)
      → Stops (behind r.model.format (entry k l)) (noted r (entry k l))
      (then_due r.model.format (entry k l) ++ ks) ls row n
      → Stops nothing r (k ∷ ks) (l ∷ ls) row (suc n)
  no_list : {due : List ℕ} {r : Reading} {ks : List Key} → Stops (list due) r ks [] 2 1
  faulty_list : {due : List ℕ} {r : Reading} {ks : List Key} {l : Line} {ls : List Line} {row : ℕ}
      → Smallest (writes_rows r due l) row → Stops (list due) r ks (l ∷ ls) row 1
  after_list : {due : List ℕ} {r : Reading} {ks : List Key} {l : Line} {ls : List Line} {row n : ℕ}
      → Unbroken (writes_rows r due l) → Stops nothing r ks ls row n → Stops (list due) r ks (l ∷ ls) row (suc n)
  no_owner : {r : Reading} {ks : List Key} → Stops owner r ks [] 2 1
  faulty_owner : {r : Reading} {ks : List Key} {l : Line} {ls : List Line} {row : ℕ} → Smallest (owner_rows l) row
      → Stops owner r ks (l ∷ ls) row 1
  after_owner : {r : Reading} {ks : List Key} {l : Line} {ls : List Line} {row n : ℕ} → Unbroken (owner_rows l)
      → Stops nothing (with_owner r (the_owner l)) ks ls row n → Stops owner r ks (l ∷ ls) row (suc n)
