-- Request (a), `ini P C`: the oven with start conditions, and the rows of the compose line, as tables over the definitions.
use Prim.Native.Nat.{ℕ}
use mathlib.Core.Path.{◌≡◌, refl}
use mathlib.Core.Bool.{true, false}
use mathlib.Core.List.{List, [], ◌∷◌, ◌++◌}
use Rattle.model.specs.Judge.{marked, yes, no}
use Rattle.format.specs.Bytes.{Bytes, bytes}
use Rattle.theorem_examples.proofs.Computing.{computing}
use Rattle.theorem_examples.proofs.Cases.{times, Case, accepts, refuses, answers, prints, same_bool, same_answer, table_of_text, refused_with, passes, failing}
use Rattle.theorem_examples.proofs.Oven.{oven_of, oven, merged_with, from, outside, small, true', quiet}

-- the oven composed so; one that starts only with the valve shut; one with a condition of its own for the door; and one with
-- conditions over both and for each
abbrev oven_as : Bytes → Bytes
oven_as compose = oven_of (bytes "sync=1") compose

abbrev shut : Bytes
shut = oven_as (bytes "ini eq v0 0 par a0 a1")

abbrev shut_at_door : Bytes
shut_at_door = oven_as (bytes "par ini eq v0 0 a0 a1")

abbrev nested : Bytes
nested = oven_as (bytes "ini le v0 1 par ini eq v0 0 a0 ini not eq v0 1 a1")

abbrev start_cases : List Case
start_cases =
    -- it is accepted, and in the merged init the condition stands behind the implications
    accepts shut ∷
    prints shut (merged_with (bytes "4") (bytes " eq v0 0")) ∷
    -- at the start with the valve shut: steam may open it
    answers shut (from 0 0 0 0 2 0 0 1) (marked false) ∷
    -- at the start with the valve open: no step, though the automata would take it, and no environment step
    answers shut (from 0 0 0 1 1 1 0 0) no ∷
    answers oven (from 0 0 0 1 1 1 0 0) (marked true) ∷
    answers shut (outside 0 0 0 1 0) no ∷
    -- afterwards the condition plays no part
    answers shut (from 1 0 0 1 1 1 0 0) (marked true) ∷
    answers shut (outside 1 0 0 1 0) yes ∷
    -- a condition for the door is asked when the steam goes alone
    answers shut_at_door (from 0 0 0 1 2 0 0 1) no ∷
    answers shut_at_door (from 1 0 0 1 2 0 0 1) (marked false) ∷
    -- left to right, outer first
    prints nested (merged_with (bytes "6") (bytes " le v0 1 eq v0 0 not eq v0 1")) ∷
    []

pub start_cases_lem : failing 0 start_cases ≡ []
unfolding computing same_bool same_answer table_of_text refused_with passes failing
start_cases_lem = refl

-- one automaton, composed so; under a predicate of this depth
abbrev composed : Bytes → Bytes
composed c = small true' true' quiet c

abbrev deep : (nots : ℕ) → Bytes
deep nots = composed (bytes "ini " ++ (times nots (bytes "not ") ++ bytes "all 0 a0"))

abbrev row_cases : List Case
row_cases =
    -- depth 24, which is one more in the merged init, and 25
    accepts (deep 23) ∷
    prints (deep 23) (bytes "refused=33,0\n") ∷
    refuses (deep 24) 9 11 ∷
    -- no predicate after `ini`
    refuses (composed (bytes "ini a0")) 6 11 ∷
    refuses (composed (bytes "a0 ini")) 6 11 ∷
    -- no composition after the predicate; no list after `syn`
    refuses (composed (bytes "ini all 0")) 13 11 ∷
    refuses (composed (bytes "syn ini all 0 a0")) 13 11 ∷
    -- 64 nodes of the tree, and one more
    accepts (composed (times 63 (bytes "ini all 0 ") ++ bytes "a0")) ∷
    refuses (composed (times 64 (bytes "ini all 0 ") ++ bytes "a0")) 16 11 ∷
    []

pub start_rows : failing 0 row_cases ≡ []
unfolding computing same_bool same_answer table_of_text refused_with passes failing
start_rows = refl
