-- Rows 2, 3, 5, 7, 44 and 51 as the line `writes=` after an edge breaks them (request (f)): `true` is broken. As in
-- Rows, a row may take for granted that no smaller one is.
use Rattle.std.specs.Prelude.{ℕ, Bool, not, ◌||◌, List, map, length, drop, pos, leb}
use Rattle.std.proofs.Math.Option.{Option, none}
use Rattle.model.specs.Basic.{every, exists, same}
use Rattle.model.specs.Bounds.{last_variable}
use Rattle.model.specs.Lines.{Reading}
use Rattle.model.specs.Limits.{ascends, variable_count, is_foreign, broken}
use Rattle.format.specs.Bytes.{Bytes, begins}
use Rattle.format.specs.Number.{within, natural_of}
use Rattle.format.specs.Spelling.{writes_key}
use Rattle.format.specs.Rows.{Line, list_items, printable}

-- the list, perhaps empty; as in `sync=`, commas part its items and no fields
unfoldable pub writes_items : Line → List Bytes
writes_items l = list_items (drop (length writes_key) l.bytes)

unfoldable pub writes_list : Line → List ℕ
writes_list l = map natural_of (writes_items l)

-- Row 2: is this a `writes` line in printable bytes, up to an LF?
unfoldable pub writes_row2 : Line → Bool
writes_row2 l = not (begins writes_key l.bytes) || (not (every printable l.bytes) || not l.ended)

-- Row 3: is each number spelled right, and one of a variable?
unfoldable pub writes_row3 : Line → Bool
writes_row3 l = not (every (within (pos 0) (pos last_variable)) (writes_items l))

-- Row 5: does the list rise?
unfoldable pub writes_row5 : Line → Bool
writes_row5 l = not (ascends 0 (writes_list l))

-- Row 7: does the model have the variables?
unfoldable pub writes_row7 : Reading → Line → Bool
writes_row7 r l = exists (λ k. leb (variable_count r) k) (writes_list l)

-- Row 44: is the list exactly the one that is due, the variables whose new value the edge mentions?
unfoldable pub row44 : (due : List ℕ) → Line → Bool
row44 due l = not (same (writes_list l) due)

-- Row 51: from format 3 on, does the automaton own what the edge writes (request (k))?
unfoldable pub row51 : Reading → Line → Bool
row51 r l = is_foreign r (writes_list l)

-- the smallest row that the line breaks
unfoldable pub writes_fault : Reading → (due : List ℕ) → Line → Option ℕ
writes_fault r due l =
    broken 2 (writes_row2 l)
    (broken 3 (writes_row3 l)
    (broken 5 (writes_row5 l)
    (broken 7 (writes_row7 r l)
    (broken 44 (row44 due l)
    (broken 51 (row51 r l)
    none)))))
