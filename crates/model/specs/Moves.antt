-- The action transitions of a composition: rules 17 to 19 and 21 of Table 3 of source document 003, each transition by
-- its takers, in the order of the merged text.
use Rattle.std.specs.Prelude.{ℕ, ◌+◌, ◌*◌, Bool, true, false, List, [], ◌∷◌, ◌++◌, map, length, eqb}
use Rattle.model.specs.Basic.{keep, once}
use Rattle.model.specs.Composition.{Tree, par, syn, ini, leaf}
use Rattle.model.specs.Model.{Model, Edge, automaton, in_set}
use Rattle.model.specs.Equal.{same_edge}
use Rattle.model.specs.Rules.{Taker}

-- the first of the left with each of the right, then the second of the left with each of the right, and so on
unfoldable pub pairs : List (List Taker) → List (List Taker) → List (List Taker)
pairs [] ys = []
pairs (x ∷ xs) ys = map (λ y. x ++ y) ys ++ pairs xs ys

-- by whether the action is in the left's set, and in the right's: in both (rule 19), or one side alone, if the other's
-- set lacks it (rule 18), the left's before the right's
unfoldable pub sides : Bool → Bool → List (List Taker) → List (List Taker) → List (List Taker)
sides true true left right = pairs left right
sides true false left right = left
sides false true left right = right
sides false false left right = left ++ right

-- an automaton's edges under an action, in file order
unfoldable pub under : ℕ → List Edge → List Edge
under a es = keep (λ e. eqb e.action a) es

abbrev pub alone : ℕ → Edge → List Taker
alone k e = record { automaton = k; edge = e } ∷ []

unfoldable pub moves : Model → ℕ → Tree → List (List Taker)
moves m a (par c d) = sides (in_set m a c) (in_set m a d) (moves m a c) (moves m a d)
moves m a (syn list c) = moves m a c
moves m a (ini p c) = moves m a c
moves m a (leaf k) = map (alone k) (under a (automaton m k).edges)

-- how many they are, without listing them
unfoldable pub sides_count : Bool → Bool → ℕ → ℕ → ℕ
sides_count true true left right = left * right
sides_count true false left right = left
sides_count false true left right = right
sides_count false false left right = left + right

unfoldable pub move_count : Model → ℕ → Tree → ℕ
move_count m a (par c d) = sides_count (in_set m a c) (in_set m a d) (move_count m a c) (move_count m a d)
move_count m a (syn list c) = move_count m a c
move_count m a (ini p c) = move_count m a c
move_count m a (leaf k) = length (under a (automaton m k).edges)

-- how many different ones: two are equal exactly if the same automata take equal edges
unfoldable pub distinct_count : Model → ℕ → Tree → ℕ
distinct_count m a (par c d) = sides_count (in_set m a c) (in_set m a d) (distinct_count m a c) (distinct_count m a d)
distinct_count m a (syn list c) = distinct_count m a c
distinct_count m a (ini p c) = distinct_count m a c
distinct_count m a (leaf k) = length (once same_edge (under a (automaton m k).edges))
