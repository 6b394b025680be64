-- "Refused": an example of each row, as one table over the definitions, and some of its neighbours that no row refuses.
use Prim.Native.Nat.{ℕ, zero, suc}
use mathlib.Core.Path.{◌≡◌, refl}
use mathlib.Core.List.{List, [], ◌∷◌, ◌++◌}
use lib.IntN.{pos}
use lib.ListN.{replicate, drop, take}
use Rattle.model.specs.Judge as Judge
use Rattle.model.specs.Judge.{marked, yes, no, Call, step, environment}
use Rattle.format.specs.Bytes.{Bytes, bytes}
use Rattle.format.specs.Number.{decimal}
use Rattle.theorem_examples.proofs.Computing.{computing}
use Rattle.theorem_examples.proofs.Cases.{sheet, times, Case, accepts, refuses, refuses_table, answers, answers_table, prints, writes, merges, refuses_write, refuses_merge, same_bool, same_answer, table_of_text, refused_with, passes, failing}
use Rattle.theorem_examples.proofs.Oven.{oven, oven_merged, small, true', quiet, heavy}

-- the start of a sheet with some variables' lines, and one automaton around an init
abbrev pub begin : Bytes
begin = bytes "format=1\nactions=2\nvariables=1\n"

abbrev pub ranged : (range init : Bytes) → Bytes
ranged range init =
    begin ++ (bytes "variable=" ++ (range ++ (bytes "\nautomata=1\nsync=\nlocations=1\ninit=" ++ (init ++ bytes "\ninv=all 0\nedges=0\ncompose=a0\n"))))

-- one location, these edges of automaton 0, then this composition
abbrev moving : List Bytes → Bytes
moving edges = small true' true' edges (bytes "a0")

abbrev composed : Bytes → Bytes
composed c = small true' true' quiet c

-- two actions, and an edge with this one
abbrev acting : Bytes → Bytes
acting a = begin ++ (bytes "variable=0,1\nautomata=1\nsync=\nlocations=1\ninit=all 0\ninv=all 0\nedges=1\nedge=0," ++ (a ++ bytes ",0,all 0\ncompose=a0\n"))

-- two automata, composed so
abbrev paired : Bytes → Bytes
paired c =
    sheet (bytes "format=1" ∷ bytes "actions=0" ∷ bytes "variables=0" ∷ bytes "automata=2" ∷ (one ++ (one ++ (bytes "compose=" ++ c) ∷ [])))
  where
    one : List Bytes
    one = bytes "sync=" ∷ bytes "locations=1" ∷ bytes "init=all 0" ∷ bytes "inv=all 0" ∷ bytes "edges=0" ∷ []

-- so many edges: with updates that differ, or all the same
abbrev edges_of : ℕ → List Bytes
edges_of zero = []
edges_of (suc n) = (bytes "edge=0,1,0,eq 0 " ++ decimal n) ∷ edges_of n

abbrev pasted_edges : (edge : Bytes) → ℕ → List Bytes
pasted_edges edge zero = []
pasted_edges edge (suc n) = edge ∷ pasted_edges edge n

-- two automata in parallel that share action 1 and have these edges
abbrev sharer : Bytes → List Bytes → List Bytes
sharer natural_of edges = bytes "sync=1" ∷ bytes "locations=1" ∷ bytes "init=all 0" ∷ bytes "inv=all 0" ∷ (bytes "edges=" ++ natural_of) ∷ edges

abbrev sharing : (natural_of : Bytes) → List Bytes → (count' : Bytes) → List Bytes → Bytes
sharing natural_of edges count' edges' =
    sheet (bytes "format=1" ∷ bytes "actions=1" ∷ bytes "variables=0" ∷ bytes "automata=2" ∷
    (sharer natural_of edges ++ (sharer count' edges' ++ bytes "compose=par a0 a1" ∷ [])))

-- what the two have left if all their edges are equal
abbrev shared_once : Bytes
shared_once =
    sheet (
    bytes "format=1" ∷ bytes "actions=1" ∷ bytes "variables=2" ∷ bytes "variable=0,0" ∷ bytes "variable=0,0" ∷
    bytes "automata=1" ∷ bytes "sync=1" ∷ bytes "locations=1" ∷
    bytes "init=all 2 imp eq v0 0 all 0 imp eq v1 0 all 0" ∷
    bytes "inv=all 2 imp eq v0 0 all 0 imp eq v1 0 all 0" ∷
    bytes "edges=1" ∷
    bytes "edge=0,1,0,all 6 all 0 all 0 eq v0 0 eq n0 0 eq v1 0 eq n1 0" ∷
    bytes "compose=a0" ∷ [])

-- V variables and nine automata
abbrev many_variables : ℕ → List Bytes
many_variables zero = []
many_variables (suc n) = bytes "variable=0,1" ∷ many_variables n

abbrev nine : List Bytes
nine = quiet_ones 9
  where
    quiet_ones : ℕ → List Bytes
    quiet_ones zero = []
    quiet_ones (suc n) = bytes "sync=" ∷ bytes "locations=1" ∷ bytes "init=all 0" ∷ bytes "inv=all 0" ∷ bytes "edges=0" ∷ quiet_ones n

abbrev wide : Bytes → ℕ → Bytes
wide natural_of n =
    sheet (bytes "format=1" ∷ bytes "actions=0" ∷ (bytes "variables=" ++ natural_of) ∷ (many_variables n ++
    (bytes "automata=9" ∷ (nine ++ bytes "compose=par a0 par a1 par a2 par a3 par a4 par a5 par a6 par a7 a8" ∷ []))))

-- so many edges whose updates have 64 nodes each and differ
abbrev heavy_edges : ℕ → List Bytes
heavy_edges zero = []
heavy_edges (suc n) = (bytes "edge=0,0,0,all 61 eq 0 " ++ (decimal n ++ times 60 (bytes " all 0"))) ∷ heavy_edges n

-- so many edges of one automaton: a merged edge has seven nodes, and those of the update
abbrev having : Bytes → List Bytes → Bytes
having natural_of edges = moving ((bytes "edges=" ++ natural_of) ∷ edges)

-- what is left if all are equal
abbrev one_left : (update : Bytes) → Bytes
one_left p =
    sheet (
    bytes "format=1" ∷ bytes "actions=1" ∷ bytes "variables=2" ∷ bytes "variable=0,1" ∷ bytes "variable=0,0" ∷
    bytes "automata=1" ∷ bytes "sync=" ∷ bytes "locations=1" ∷
    bytes "init=all 1 imp eq v1 0 all 0" ∷
    bytes "inv=all 1 imp eq v1 0 all 0" ∷
    bytes "edges=1" ∷
    (bytes "edge=0,0,0,all 3 " ++ (p ++ bytes " eq v1 0 eq n1 0")) ∷
    bytes "compose=a0" ∷ [])

-- a call on the oven
abbrev call : (phase : ℕ) (locations : List ℕ) (v0 action : ℕ) → Call
call phase locations v0 action = step phase locations (pos v0 ∷ []) action (0 ∷ 0 ∷ []) (pos 0 ∷ [])

abbrev oven_table : List ℕ
oven_table = table_of_text oven

abbrev refused_cases : List Case
refused_cases =
    refuses (replicate 65537 97) 1 0 ∷
    refuses [] 2 1 ∷
    refuses (begin ++ bytes "variable=0,1\nautomata=0\n") 3 5 ∷
    refuses (ranged (bytes "2,1") true') 4 4 ∷
    refuses (begin ++ bytes "variable=0,1\nautomata=1\nsync=2,1\n") 5 6 ∷
    refuses (small true' (bytes "eq v0") quiet (bytes "a0")) 6 9 ∷
    refuses (small true' (bytes "eq v1 0") quiet (bytes "a0")) 7 9 ∷
    refuses (small true' (bytes "eq n0 0") quiet (bytes "a0")) 8 9 ∷
    refuses (small (times 24 (bytes "not ") ++ true') true' quiet (bytes "a0")) 9 8 ∷
    refuses (ranged (bytes "0,2000000") (bytes "eq mul mul v0 v0 v0 0")) 10 8 ∷
    accepts (ranged (bytes "0,1664510") (bytes "eq mul mul v0 v0 v0 0")) ∷
    refuses (heavy (bytes "not ")) 11 12 ∷
    accepts (heavy []) ∷
    refuses (acting (bytes "3")) 12 11 ∷
    accepts (acting (bytes "2")) ∷
    refuses (composed (bytes "par a0")) 13 11 ∷
    refuses (paired (bytes "par a1 a0")) 14 15 ∷
    accepts (paired (bytes "par a0 a1")) ∷
    refuses (sharing (bytes "300") (pasted_edges (bytes "edge=0,1,0,all 0") 300) (bytes "213") []) 15 314 ∷
    refuses (composed (times 64 (bytes "syn 1 ") ++ bytes "a0")) 16 11 ∷
    accepts (composed (times 63 (bytes "syn 1 ") ++ bytes "a0")) ∷
    refuses_table oven 16383 18 0 ∷
    answers_table (take 16383 oven_table) (call 0 (0 ∷ 0 ∷ []) 0 1) (Judge.refused 18) ∷
    answers_table (3 ∷ drop 1 oven_table) (call 0 (0 ∷ 0 ∷ []) 0 1) (Judge.refused 19) ∷
    answers_table (oven_table ++ 7 ∷ []) (call 0 (0 ∷ 0 ∷ []) 0 1) no ∷
    answers_table (take 16383 oven_table ++ 7 ∷ []) (call 0 (0 ∷ 0 ∷ []) 0 1) (Judge.refused 19) ∷
    refuses_write (take 16383 oven_table) 65536 18 ∷
    refuses_write (3 ∷ drop 1 oven_table) 65536 19 ∷
    refuses_merge (take 16383 oven_table) 65536 18 ∷
    refuses_merge (3 ∷ drop 1 oven_table) 65536 19 ∷
    answers oven (call 2 (0 ∷ 0 ∷ []) 0 1) (Judge.refused 20) ∷
    answers oven (call 0 (0 ∷ []) 0 1) (Judge.refused 21) ∷
    answers oven (environment 0 (0 ∷ 0 ∷ []) [] (pos 0 ∷ [])) (Judge.refused 21) ∷
    answers oven (call 0 (2 ∷ 0 ∷ []) 0 1) (Judge.refused 22) ∷
    answers oven (call 0 (0 ∷ 0 ∷ []) 2 1) (Judge.refused 23) ∷
    answers oven (environment 0 (0 ∷ 0 ∷ []) (pos 0 ∷ []) (pos 2 ∷ [])) (Judge.refused 23) ∷
    answers oven (call 0 (0 ∷ 0 ∷ []) 0 3) (Judge.refused 24) ∷
    prints (wide (bytes "40") 40) (bytes "refused=31,0\n") ∷
    prints (sharing (bytes "23") (edges_of 23) (bytes "23") (edges_of 23)) (bytes "refused=32,0\n") ∷
    prints (sharing (bytes "23") (pasted_edges (bytes "edge=0,1,0,all 0") 23) (bytes "23") (pasted_edges (bytes "edge=0,1,0,all 0") 23)) shared_once ∷
    prints (small (times 22 (bytes "not ") ++ true') true' quiet (bytes "a0")) (bytes "refused=33,0\n") ∷
    prints (having (bytes "60") (heavy_edges 60)) (bytes "refused=34,0\n") ∷
    prints (having (bytes "512") (pasted_edges (bytes "edge=0,0,0,not all 0") 512)) (one_left (bytes "not all 0")) ∷
    refuses_write oven_table 0 35 ∷
    refuses_write oven_table 246 35 ∷
    writes oven_table 247 oven ∷
    refuses_merge oven_table 0 35 ∷
    refuses_merge oven_table 353 35 ∷
    merges oven_table 354 oven_merged 2 ∷
    []

pub refused_cases_lem : failing 0 refused_cases ≡ []
unfolding computing same_bool same_answer table_of_text refused_with passes failing
refused_cases_lem = refl
