-- "On that oven" and "Wrong on a real oven": the oven's cases, as tables over the definitions.
use Prim.Native.Nat.{ℕ}
use mathlib.Core.Path.{◌≡◌, refl}
use mathlib.Core.Bool.{true, false}
use mathlib.Core.List.{List, [], ◌∷◌, ◌++◌}
use lib.IntN.{pos}
use lib.ListN.{replicate}
use Rattle.model.specs.Basic.{same}
use Rattle.model.specs.Judge.{marked, yes, no, Call, step, environment}
use Rattle.format.specs.Bytes.{Bytes, bytes}
use Rattle.theorem_examples.proofs.Computing.{computing}
use Rattle.theorem_examples.proofs.Cases.{sheet, times, Case, accepts, refuses, set_is, answers, prints, same_bool, same_answer, table_of_text, refused_with, passes, failing}

-- the oven's sheet: door, steam, and v0 the valve; with the door's `sync=` line and the composition as given
abbrev pub oven_of : (sync compose : Bytes) → Bytes
oven_of sync compose =
    sheet (
    bytes "format=1" ∷ bytes "actions=2" ∷ bytes "variables=1" ∷ bytes "variable=0,1" ∷ bytes "automata=2" ∷
    sync ∷ bytes "locations=2" ∷ bytes "init=all 0" ∷ bytes "inv=all 0" ∷ bytes "init=any 0" ∷ bytes "inv=eq v0 0" ∷
    bytes "edges=1" ∷ bytes "edge=0,1,1,all 0" ∷
    bytes "sync=1" ∷ bytes "locations=1" ∷ bytes "init=all 0" ∷ bytes "inv=all 0" ∷
    bytes "edges=2" ∷ bytes "edge=0,1,0,eq n0 0" ∷ bytes "edge=0,2,0,eq n0 1" ∷
    (bytes "compose=" ++ compose) ∷ [])

abbrev oven_with : (sync : Bytes) → Bytes
oven_with sync = oven_of sync (bytes "par a0 a1")

abbrev pub oven : Bytes
oven = oven_with (bytes "sync=1")

-- its merged sheet, with this many predicates in its init: the three implications, and more
abbrev pub merged_with : (count more : Bytes) → Bytes
merged_with count more =
    sheet (
    bytes "format=1" ∷ bytes "actions=2" ∷ bytes "variables=3" ∷ bytes "variable=0,1" ∷ bytes "variable=0,1" ∷ bytes "variable=0,0" ∷
    bytes "automata=1" ∷ bytes "sync=1" ∷ bytes "locations=1" ∷
    (bytes "init=all " ++ (count ++ (bytes " imp eq v1 0 all 0 imp eq v1 1 any 0 imp eq v2 0 all 0" ++ more))) ∷
    bytes "inv=all 3 imp eq v1 0 all 0 imp eq v1 1 eq v0 0 imp eq v2 0 all 0" ∷
    bytes "edges=2" ∷
    bytes "edge=0,1,0,all 6 all 0 eq n0 0 eq v1 0 eq n1 1 eq v2 0 eq n2 0" ∷
    bytes "edge=0,2,0,all 3 eq n0 1 eq v2 0 eq n2 0" ∷
    bytes "compose=a0" ∷ [])

abbrev pub oven_merged : Bytes
oven_merged = merged_with (bytes "3") []

-- a proposal on the oven: phase, the locations of door and steam, v0; action, new locations, new v0
abbrev pub from : (phase door steam v0 action door' steam' v0' : ℕ) → Call
from phase door steam v0 action door' steam' v0' =
    step phase (door ∷ steam ∷ []) (pos v0 ∷ []) action (door' ∷ steam' ∷ []) (pos v0' ∷ [])

abbrev pub outside : (phase door steam v0 v0' : ℕ) → Call
outside phase door steam v0 v0' = environment phase (door ∷ steam ∷ []) (pos v0 ∷ []) (pos v0' ∷ [])

-- a sheet of one automaton with one location
abbrev pub small : (init inv : Bytes) → (edges : List Bytes) → (compose : Bytes) → Bytes
small init inv edges compose =
    sheet (bytes "format=1" ∷ bytes "actions=1" ∷ bytes "variables=1" ∷ bytes "variable=0,1" ∷ bytes "automata=1" ∷ bytes "sync=" ∷
    bytes "locations=1" ∷ (bytes "init=" ++ init) ∷ (bytes "inv=" ++ inv) ∷ (edges ++ (bytes "compose=" ++ compose) ∷ []))

abbrev pub true' : Bytes
true' = bytes "all 0"

abbrev pub quiet : List Bytes
quiet = bytes "edges=0" ∷ []

-- an edge of 2,047 nodes, or one more
abbrev heavy_edge : Bytes → Bytes
heavy_edge more = bytes "edge=0,1,0," ++ (more ++ (bytes "all 341" ++ times 341 (bytes " not not not eq v0 0")))

abbrev pub heavy : Bytes → Bytes
heavy more = small true' true' (bytes "edges=2" ∷ heavy_edge [] ∷ heavy_edge more ∷ []) (bytes "a0")

abbrev oven_cases : List Case
oven_cases =
    -- the text is accepted, and the program prints the merged text
    accepts oven ∷
    prints oven oven_merged ∷
    accepts oven_merged ∷
    -- steps and environment steps
    answers oven (from 0 0 0 1 1 1 0 0) (marked true) ∷
    answers oven (from 0 0 0 0 2 0 0 1) (marked false) ∷
    answers oven (from 1 1 0 0 2 1 0 1) no ∷
    answers oven (from 0 1 0 0 2 1 0 0) no ∷
    answers oven (outside 1 1 0 0 0) yes ∷
    answers oven (outside 1 1 0 0 1) no ∷
    answers oven (from 1 0 0 1 1 1 0 1) no ∷
    answers oven (from 1 0 0 1 0 0 0 1) no ∷
    answers (oven_with (bytes "sync=")) (from 0 0 0 0 1 1 0 0) no ∷
    -- depth 24 and 25
    accepts (small (times 23 (bytes "not ") ++ true') true' quiet (bytes "a0")) ∷
    refuses (small (times 24 (bytes "not ") ++ true') true' quiet (bytes "a0")) 9 8 ∷
    -- 4,096 nodes, and one more
    accepts (heavy []) ∷
    refuses (heavy (bytes "not ")) 11 12 ∷
    -- `syn 1 a0` adds action 1 to the set
    set_is (small true' true' quiet (bytes "a0")) [] ∷
    set_is (small true' true' quiet (bytes "syn 1 a0")) (1 ∷ []) ∷
    set_is oven (1 ∷ []) ∷
    []

pub oven_cases_lem : failing 0 oven_cases ≡ []
unfolding computing same_bool same_answer table_of_text refused_with passes failing
oven_cases_lem = refl

-- the oven's table, docs/TABLE.md
pub oven_table : same (table_of_text oven) (
    1 ∷ 2 ∷ 1 ∷ 1000000000 ∷ 1000000001 ∷ 0 ∷ 2 ∷
    2 ∷ 0 ∷ 2 ∷ 1 ∷ 0 ∷ 1 ∷ 0 ∷ 1 ∷ 1 ∷ 3 ∷ 4 ∷ 7 ∷ 3147483648 ∷ 1 ∷ 0 ∷ 1 ∷ 1 ∷ 1 ∷ 0 ∷
    2 ∷ 0 ∷ 1 ∷ 1 ∷ 0 ∷ 1 ∷ 0 ∷ 2 ∷ 0 ∷ 1 ∷ 0 ∷ 3 ∷ 4 ∷ 8 ∷ 3147483648 ∷ 0 ∷ 2 ∷ 0 ∷ 3 ∷ 4 ∷ 8 ∷ 3147483649 ∷
    3 ∷ 0 ∷ 2 ∷ 3 ∷ 0 ∷ replicate 16331 0) ≡ true
unfolding computing table_of_text
oven_table = refl

-- two automata that can each take action 1 and do not share it, inside `syn 1`
abbrev pair : Bytes
pair =
    sheet (bytes "format=1" ∷ bytes "actions=1" ∷ bytes "variables=0" ∷ bytes "automata=2" ∷
    (one ++ (one ++ bytes "compose=syn 1 par a0 a1" ∷ [])))
  where
    one : List Bytes
    one =
        bytes "sync=" ∷ bytes "locations=2" ∷ bytes "init=all 0" ∷ bytes "inv=all 0" ∷ bytes "init=any 0" ∷ bytes "inv=all 0" ∷
        bytes "edges=1" ∷ bytes "edge=0,1,1,all 0" ∷ []

abbrev both : (first second : ℕ) → Call
both first second = step 0 (0 ∷ 0 ∷ []) [] 1 (first ∷ second ∷ []) []

abbrev wrong_cases : List Case
wrong_cases =
    -- the door does not write v0, and still the steam's edge shuts the valve
    answers oven (from 1 0 0 1 1 1 0 0) (marked true) ∷
    -- only the steam shares action 1: the door does not take it alone, and the steam does
    answers (oven_with (bytes "sync=")) (from 1 0 0 0 1 1 0 0) no ∷
    answers (oven_with (bytes "sync=")) (from 1 0 0 0 1 0 0 0) (marked true) ∷
    -- the door is still, and its inv must hold afterwards too
    answers oven (from 1 1 0 0 2 1 0 1) no ∷
    answers oven (from 1 0 0 0 2 0 0 1) (marked false) ∷
    -- the door's second location has an init that never holds, which counts in phase 0 alone
    answers oven (outside 0 1 0 0 0) no ∷
    answers oven (outside 1 1 0 0 0) yes ∷
    -- `syn` does not bind what stands inside it
    answers pair (both 1 0) (marked true) ∷
    answers pair (both 0 1) (marked true) ∷
    answers pair (both 1 1) no ∷
    []

pub wrong_cases_lem : failing 0 wrong_cases ≡ []
unfolding computing same_bool same_answer table_of_text refused_with passes failing
wrong_cases_lem = refl
