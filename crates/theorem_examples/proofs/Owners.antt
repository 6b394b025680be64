-- Request (k), owners of variables: the oven in format 3 with a probe beside the valve, and the rows of owners, as tables
-- over the definitions.
use Prim.Native.Nat.{ℕ}
use mathlib.Core.Path.{◌≡◌, refl}
use mathlib.Core.Bool.{true, false}
use mathlib.Core.List.{List, [], ◌∷◌, ◌++◌}
use lib.IntN.{ℤ, pos}
use lib.ListN.{take}
use Rattle.model.specs.Basic.{same}
use Rattle.model.specs.Judge as Judge
use Rattle.model.specs.Judge.{Call, marked, yes, no, step, environment}
use Rattle.format.specs.Bytes.{Bytes, bytes}
use Rattle.theorem_examples.proofs.Computing.{computing}
use Rattle.theorem_examples.proofs.Cases.{sheet, Case, accepts, refuses, answers, prints, same_bool, same_answer, table_of_text, refused_with, passes, failing}

-- The oven with the valve v0 and the probe v1: the lines from `variable=0,1` on up to `automata=`, and the list behind the
-- last edge of the steam sheet, which is automaton 1.
abbrev oven_with : (first : Bytes) (variables : List Bytes) (last : List Bytes) → Bytes
oven_with first variables last =
    sheet (
    first ∷ bytes "actions=2" ∷ bytes "variables=2" ∷ (variables ++ (
    bytes "automata=2" ∷
    bytes "sync=1" ∷ bytes "locations=2" ∷ bytes "init=all 0" ∷ bytes "inv=all 0" ∷ bytes "init=any 0" ∷ bytes "inv=eq v0 0" ∷
    bytes "edges=1" ∷ bytes "edge=0,1,1,le v1 1" ∷ bytes "writes=" ∷
    bytes "sync=1" ∷ bytes "locations=1" ∷ bytes "init=all 0" ∷ bytes "inv=all 0" ∷
    bytes "edges=2" ∷ bytes "edge=0,1,0,eq n0 0" ∷ bytes "writes=0" ∷ (last ++ (
    bytes "compose=par a0 a1" ∷ [])))))

abbrev last : List Bytes
last = bytes "edge=0,2,0,eq n0 1" ∷ bytes "writes=0" ∷ []

-- the owners of the valve and of the probe
abbrev owners : (valve probe : Bytes) → List Bytes
owners valve probe = bytes "variable=0,1" ∷ (bytes "owner=" ++ valve) ∷ bytes "variable=0,2" ∷ (bytes "owner=" ++ probe) ∷ []

abbrev oven_owned : (valve probe : Bytes) → Bytes
oven_owned valve probe = oven_with (bytes "format=3") (owners valve probe) last

abbrev owned : Bytes
owned = oven_owned (bytes "1") (bytes "none")

-- its merged sheet: the valve and the pointers belong to automaton 0, the probe to nobody
abbrev owned_merged : Bytes
owned_merged =
    sheet (
    bytes "format=3" ∷ bytes "actions=2" ∷ bytes "variables=4" ∷
    bytes "variable=0,1" ∷ bytes "owner=0" ∷ bytes "variable=0,2" ∷ bytes "owner=none" ∷
    bytes "variable=0,1" ∷ bytes "owner=0" ∷ bytes "variable=0,0" ∷ bytes "owner=0" ∷
    bytes "automata=1" ∷ bytes "sync=1" ∷ bytes "locations=1" ∷
    bytes "init=all 3 imp eq v2 0 all 0 imp eq v2 1 any 0 imp eq v3 0 all 0" ∷
    bytes "inv=all 3 imp eq v2 0 all 0 imp eq v2 1 eq v0 0 imp eq v3 0 all 0" ∷
    bytes "edges=2" ∷
    bytes "edge=0,1,0,all 6 le v1 1 eq n0 0 eq v2 0 eq n2 1 eq v3 0 eq n3 0" ∷ bytes "writes=0,2,3" ∷
    bytes "edge=0,2,0,all 3 eq n0 1 eq v3 0 eq n3 0" ∷ bytes "writes=0,3" ∷
    bytes "compose=a0" ∷ [])

-- values of valve and probe; and of the merged sheet's variables
abbrev at : (valve probe : ℕ) → List ℤ
at valve probe = pos valve ∷ pos probe ∷ []

-- running, the environment changes them from 0 and 0
abbrev change : (locations : List ℕ) (before after : List ℤ) → Call
change locations before after = environment 1 locations before after

abbrev owner_cases : List Case
owner_cases =
    accepts owned ∷
    prints owned owned_merged ∷
    -- the sheets still move the valve, and the probe may change at any time
    answers owned (step 0 (0 ∷ 0 ∷ []) (at 1 0) 1 (1 ∷ 0 ∷ []) (at 0 0)) (marked true) ∷
    answers owned (step 1 (0 ∷ 0 ∷ []) (at 0 0) 2 (0 ∷ 0 ∷ []) (at 1 0)) (marked false) ∷
    answers owned (change (0 ∷ 0 ∷ []) (at 0 0) (at 0 2)) yes ∷
    -- the valve does not change by itself; it did before format 3
    answers owned (change (0 ∷ 0 ∷ []) (at 0 0) (at 1 0)) no ∷
    answers owned (change (0 ∷ 0 ∷ []) (at 0 0) (at 1 1)) no ∷
    answers (oven_with (bytes "format=2") (bytes "variable=0,1" ∷ bytes "variable=0,2" ∷ []) last) (change (0 ∷ 0 ∷ []) (at 0 0) (at 1 1)) yes ∷
    -- nobody's variable changes in no step
    answers owned (step 1 (0 ∷ 0 ∷ []) (at 0 0) 2 (0 ∷ 0 ∷ []) (at 1 1)) no ∷
    -- and the merged automaton's pointers do not either
    answers owned_merged (change (0 ∷ []) (pos 0 ∷ pos 0 ∷ pos 0 ∷ pos 0 ∷ []) (pos 0 ∷ pos 2 ∷ pos 0 ∷ pos 0 ∷ [])) yes ∷
    answers owned_merged (change (0 ∷ []) (pos 0 ∷ pos 0 ∷ pos 0 ∷ pos 0 ∷ []) (pos 0 ∷ pos 0 ∷ pos 1 ∷ pos 0 ∷ [])) no ∷
    answers owned_merged (change (0 ∷ []) (pos 0 ∷ pos 0 ∷ pos 0 ∷ pos 0 ∷ []) (pos 0 ∷ pos 0 ∷ pos 2 ∷ pos 0 ∷ [])) (Judge.refused 23) ∷
    []

pub owner_cases_lem : failing 0 owner_cases ≡ []
unfolding computing same_bool same_answer table_of_text refused_with passes failing
owner_cases_lem = refl

abbrev owner_rows : List Case
owner_rows =
    -- row 3 of the owner's line: `none`, or a number from 0 to 15
    refuses (oven_owned (bytes "16") (bytes "none")) 3 5 ∷
    refuses (oven_owned (bytes "None") (bytes "none")) 3 5 ∷
    refuses (oven_owned (bytes "none ") (bytes "none")) 3 5 ∷
    refuses (oven_owned [] (bytes "none")) 3 5 ∷
    refuses (oven_owned (bytes "01") (bytes "none")) 3 5 ∷
    refuses (oven_owned (bytes "-1") (bytes "none")) 3 5 ∷
    -- row 2: two fields, another key, an owner that is lacking, one too many, one before format 3
    refuses (oven_owned (bytes "1,1") (bytes "none")) 2 5 ∷
    refuses (oven_with (bytes "format=3") (bytes "variable=0,1" ∷ bytes "Owner=1" ∷ bytes "variable=0,2" ∷ bytes "owner=none" ∷ []) last) 2 5 ∷
    refuses (oven_with (bytes "format=3") (bytes "variable=0,1" ∷ bytes "variable=0,2" ∷ []) last) 2 5 ∷
    refuses (oven_with (bytes "format=3") (bytes "variable=0,1" ∷ bytes "owner=1" ∷ bytes "variable=0,2" ∷ []) last) 2 7 ∷
    refuses (oven_with (bytes "format=3") (bytes "variable=0,1" ∷ bytes "owner=1" ∷ bytes "owner=1" ∷ []) last) 2 6 ∷
    refuses (oven_with (bytes "format=2") (owners (bytes "1") (bytes "none")) last) 2 5 ∷
    -- row 4 comes earlier, at the variable's line
    refuses (oven_with (bytes "format=3") (bytes "variable=1,0" ∷ bytes "owner=16" ∷ []) last) 4 4 ∷
    -- row 50 at the line `automata`, which is the eighth
    refuses (oven_owned (bytes "1") (bytes "2")) 50 8 ∷
    refuses (oven_owned (bytes "15") (bytes "none")) 50 8 ∷
    -- row 51 at the line `writes`: the door's valve, or nobody's, moved by the steam sheet
    refuses (oven_owned (bytes "0") (bytes "none")) 51 24 ∷
    refuses (oven_owned (bytes "none") (bytes "1")) 51 24 ∷
    -- after row 44
    refuses (oven_with (bytes "format=3") (owners (bytes "1") (bytes "none")) (bytes "edge=0,2,0,eq n1 1" ∷ bytes "writes=0" ∷ [])) 44 26 ∷
    refuses (oven_with (bytes "format=3") (owners (bytes "1") (bytes "none")) (bytes "edge=0,2,0,eq n1 1" ∷ bytes "writes=1" ∷ [])) 51 26 ∷
    []

pub owner_rows_lem : failing 0 owner_rows ≡ []
unfolding computing same_bool same_answer table_of_text refused_with passes failing
owner_rows_lem = refl

-- the owners in the table: K + 1 for the valve's automaton, 0 for the probe
pub owner_table : same (take 10 (table_of_text owned)) (3 ∷ 2 ∷ 2 ∷ 1000000000 ∷ 1000000001 ∷ 2 ∷ 1000000000 ∷ 1000000002 ∷ 0 ∷ 2 ∷ []) ≡ true
unfolding computing table_of_text
owner_table = refl
