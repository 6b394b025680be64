-- Row 2 of a line, by its key's bytes and how many fields commas part it into. It is `row2`: the law row2_by.
use Rattle.std.specs.Prelude.{ℕ, zero, suc, Bool, false, not, ◌||◌, [], length, get_or, drop, eqb}
use Rattle.model.specs.Basic.{every}
use Rattle.model.specs.Lines.{Key, format, actions, variables, variable, automata, sync, locations, init, inv}
use Rattle.model.specs.Lines.{edges, edge, compose}
use Rattle.format.specs.Bytes.{Bytes, begins, parts, comma}
use Rattle.format.specs.Rows.{Line, printable}

-- a line's bytes without the LF, and whether an LF ended it
abbrev pub line_of : Bytes → Bool → Line
line_of s ended = record { bytes = s; ended = ended }

-- what stands after the key
abbrev pub value_after : (name s : Bytes) → Bytes
value_after name s = drop (length name) s

-- a field of a value that commas part
unfoldable pub field_in : ℕ → Bytes → Bytes
field_in number v = get_or (parts comma v) number []

-- so many fields; where none are asked for, commas part nothing
unfoldable pub misparted : ℕ → Bytes → Bool
misparted zero v = false
misparted (suc n) v = not (eqb (length (parts comma v)) (suc n))

unfoldable pub misformed : (name : Bytes) (fields : ℕ) → Bytes → (ended : Bool) → Bool
misformed name fields s ended =
    not (begins name s) || (misparted fields (value_after name s) || (not (every printable s) || not ended))

-- the fields of each key
unfoldable pub fields_of : Key → ℕ
fields_of format = 1
fields_of actions = 1
fields_of variables = 1
fields_of variable = 2
fields_of automata = 1
fields_of sync = 0
fields_of locations = 1
fields_of init = 1
fields_of inv = 1
fields_of edges = 1
fields_of edge = 4
fields_of compose = 0
