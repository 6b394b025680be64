-- Request (f), each edge says what it writes: the oven in format 2, and the rows of the line `writes=`, as tables over the
-- definitions.
use mathlib.Core.Path.{◌≡◌, refl}
use mathlib.Core.Bool.{true}
use mathlib.Core.List.{List, [], ◌∷◌, ◌++◌}
use Rattle.model.specs.Judge.{marked, yes, no}
use Rattle.format.specs.Bytes.{Bytes, bytes}
use Rattle.theorem_examples.proofs.Computing.{computing}
use Rattle.theorem_examples.proofs.Cases.{sheet, Case, accepts, refuses, answers, prints, same_bool, same_answer, table_of_text, refused_with, passes, failing}
use Rattle.theorem_examples.proofs.Oven.{oven, oven_merged, from, outside}

-- the oven with this format line and this list behind the door's edge
abbrev oven_listed : (first list : Bytes) → Bytes
oven_listed first list =
    sheet (
    first ∷ bytes "actions=2" ∷ bytes "variables=1" ∷ bytes "variable=0,1" ∷ bytes "automata=2" ∷
    bytes "sync=1" ∷ bytes "locations=2" ∷ bytes "init=all 0" ∷ bytes "inv=all 0" ∷ bytes "init=any 0" ∷ bytes "inv=eq v0 0" ∷
    bytes "edges=1" ∷ bytes "edge=0,1,1,all 0" ∷ (bytes "writes=" ++ list) ∷
    bytes "sync=1" ∷ bytes "locations=1" ∷ bytes "init=all 0" ∷ bytes "inv=all 0" ∷
    bytes "edges=2" ∷ bytes "edge=0,1,0,eq n0 0" ∷ bytes "writes=0" ∷ bytes "edge=0,2,0,eq n0 1" ∷ bytes "writes=0" ∷
    bytes "compose=par a0 a1" ∷ [])

abbrev listed : Bytes
listed = oven_listed (bytes "format=2") []

-- its merged sheet: the pointers are in the lists
abbrev listed_merged : Bytes
listed_merged =
    sheet (
    bytes "format=2" ∷ bytes "actions=2" ∷ bytes "variables=3" ∷ bytes "variable=0,1" ∷ bytes "variable=0,1" ∷ bytes "variable=0,0" ∷
    bytes "automata=1" ∷ bytes "sync=1" ∷ bytes "locations=1" ∷
    bytes "init=all 3 imp eq v1 0 all 0 imp eq v1 1 any 0 imp eq v2 0 all 0" ∷
    bytes "inv=all 3 imp eq v1 0 all 0 imp eq v1 1 eq v0 0 imp eq v2 0 all 0" ∷
    bytes "edges=2" ∷
    bytes "edge=0,1,0,all 6 all 0 eq n0 0 eq v1 0 eq n1 1 eq v2 0 eq n2 0" ∷ bytes "writes=0,1,2" ∷
    bytes "edge=0,2,0,all 3 eq n0 1 eq v2 0 eq n2 0" ∷ bytes "writes=0,2" ∷
    bytes "compose=a0" ∷ [])

abbrev list_cases : List Case
list_cases =
    -- in format 2 it is accepted, merges with lists, and is judged as in format 1
    accepts listed ∷
    prints listed listed_merged ∷
    answers listed (from 0 0 0 1 1 1 0 0) (marked true) ∷
    answers listed (from 1 1 0 0 2 1 0 1) no ∷
    answers listed (outside 1 1 0 0 0) yes ∷
    -- format 1 is as it was; a list there is no line that is due
    prints oven oven_merged ∷
    refuses (oven_listed (bytes "format=1") []) 2 14 ∷
    -- in format 3 an owner is due behind the variable; there is no format 4
    refuses (oven_listed (bytes "format=3") []) 2 5 ∷
    refuses (oven_listed (bytes "format=4") []) 3 1 ∷
    []

pub list_cases_lem : failing 0 list_cases ≡ []
unfolding computing same_bool same_answer table_of_text refused_with passes failing
list_cases_lem = refl

-- one edge with this update, and the lines behind it, in a sheet with two variables; the edge is line 12
abbrev behind : (update : Bytes) (lines : List Bytes) → Bytes
behind update lines =
    sheet (
    bytes "format=2" ∷ bytes "actions=1" ∷ bytes "variables=2" ∷ bytes "variable=0,1" ∷ bytes "variable=0,1" ∷ bytes "automata=1" ∷ bytes "sync=" ∷
    bytes "locations=1" ∷ bytes "init=all 0" ∷ bytes "inv=all 0" ∷ bytes "edges=1" ∷
    (bytes "edge=0,1,0," ++ update) ∷ (lines ++ bytes "compose=a0" ∷ []))

-- an update that writes both variables, with this list
abbrev both : Bytes → Bytes
both list = behind (bytes "le n0 n1") ((bytes "writes=" ++ list) ∷ [])

abbrev row_cases : List Case
row_cases =
    accepts (both (bytes "0,1")) ∷
    -- the list is lacking, stands twice, has another key
    refuses (behind (bytes "le n0 n1") []) 2 13 ∷
    refuses (behind (bytes "le n0 n1") (bytes "writes=0,1" ∷ bytes "writes=0,1" ∷ [])) 2 14 ∷
    refuses (behind (bytes "le n0 n1") (bytes "Writes=0,1" ∷ [])) 2 13 ∷
    -- row 3 before 5 before 7 before 44
    refuses (both (bytes "0,")) 3 13 ∷
    refuses (both (bytes "1,0,48")) 3 13 ∷
    refuses (both (bytes "47,0")) 5 13 ∷
    refuses (both (bytes "0,0,1")) 5 13 ∷
    refuses (both (bytes "0,2")) 7 13 ∷
    -- one too few, one too many
    refuses (both (bytes "1")) 44 13 ∷
    refuses (both []) 44 13 ∷
    refuses (behind (bytes "eq n1 v0") (bytes "writes=0,1" ∷ [])) 44 13 ∷
    -- a new value counts where it stands in a guard, or where it does not matter
    accepts (behind (bytes "eq if eq n1 0 v0 1 1") (bytes "writes=1" ∷ [])) ∷
    accepts (behind (bytes "imp any 0 eq n0 0") (bytes "writes=0" ∷ [])) ∷
    -- the edge's own rows come first, at its own line
    refuses (behind (bytes "eq n2 0") (bytes "writes=9" ∷ [])) 7 12 ∷
    []

pub list_rows : failing 0 row_cases ≡ []
unfolding computing same_bool same_answer table_of_text refused_with passes failing
list_rows = refl
