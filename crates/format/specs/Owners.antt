-- Rows 2 and 3 as the line `owner=` after a variable breaks them (request (k)): `true` is broken. As in Rows, a row may
-- take for granted that no smaller one is.
use Rattle.std.specs.Prelude.{ℕ, Bool, true, false, not, ◌||◌, length, drop, pos, eqb}
use Rattle.std.proofs.Math.Option.{Option, none, some}
use Rattle.model.specs.Basic.{every, same}
use Rattle.model.specs.Bounds.{last_automaton}
use Rattle.model.specs.Limits.{broken}
use Rattle.format.specs.Bytes.{Bytes, begins, parts, comma}
use Rattle.format.specs.Number.{within, natural_of}
use Rattle.format.specs.Spelling.{owner_key, none_word}
use Rattle.format.specs.Rows.{Line, printable}

unfoldable pub owner_value : Line → Bytes
owner_value l = drop (length owner_key) l.bytes

unfoldable pub is_none : Line → Bool
is_none l = same (owner_value l) none_word

-- Row 2: is this an `owner` line with one field, in printable bytes, up to an LF?
unfoldable pub owner_row2 : Line → Bool
owner_row2 l =
    not (begins owner_key l.bytes) ||
    (not (eqb (length (parts comma (owner_value l))) 1) ||
    (not (every printable l.bytes) ||
    not l.ended))

-- Row 3: is it `none`, or a number that an automaton can have?
unfoldable pub owner_row3 : Line → Bool
owner_row3 l = not (is_none l || within (pos 0) (pos last_automaton) (owner_value l))

-- the smallest row that the line breaks
unfoldable pub owner_fault : Line → Option ℕ
owner_fault l = broken 2 (owner_row2 l) (broken 3 (owner_row3 l) none)

-- the owner that a line that breaks none says
unfoldable pub the_owner : Line → Option ℕ
the_owner l = elim (is_none l) [ true ↦ none | false ↦ some (natural_of (owner_value l)) ]
