-- The takers that a picked move names.
use mathlib.Core.List.{List, [], flat_map}
use Rattle.std.specs.Prelude.{ℕ, zero, suc, length, get_or}
use Rattle.model.specs.Basic.{count_up}
use Rattle.model.specs.Predicate.{all, none}
use Rattle.model.specs.Model.{Model, Edge, automaton}
use Rattle.model.specs.Moves.{under, alone}
use Rattle.model.specs.Rules.{Taker}

-- past the last edge under an action; no picked move of a lawful model names it
abbrev pub no_edge : Edge
no_edge = record { from = 0; action = 0; to = 0; update = all none }

-- automaton i takes nothing, or an edge of those under the action: the number is one more than the edge's
unfoldable pub taker_of : (m : Model) (action i : ℕ) → ℕ → List Taker
taker_of m action i zero = []
taker_of m action i (suc j) = alone i (get_or (under action (automaton m i).edges) j no_edge)

-- of some automata, and of all
unfoldable pub takers_in : (m : Model) (action : ℕ) (picked : List ℕ) (automata : List ℕ) → List Taker
takers_in m action picked automata = flat_map (λ i. taker_of m action i (get_or picked i 0)) automata

unfoldable pub takers_of : (m : Model) (action : ℕ) (picked : List ℕ) → List Taker
takers_of m action picked = takers_in m action picked (count_up 0 (length m.automata))
