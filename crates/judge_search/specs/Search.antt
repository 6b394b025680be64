-- The step judge's search: does some move of the composition fit the step? It lists no moves. The tree says which
-- automata can take the action together, and for each such set of takers it is asked whether they can cover the changed
-- variables. (The law search_is.)
use Rattle.std.specs.Prelude.{ℕ, Bool, true, false, not, ◌&&◌, length, eqb}
use mathlib.Core.List.{List, [], ◌∷◌, ◌++◌, map, flat_map}
use Rattle.model.specs.Basic.{eq_z, every, exists, keep, count_up}
use Rattle.model.specs.Predicate.{mentions}
use Rattle.model.specs.Composition.{Tree, par, syn, ini, leaf, leaves}
use Rattle.model.specs.Model.{Model, Edge, automaton, in_set}
use Rattle.model.specs.Rules.{State, at, val}
use Rattle.model.specs.Moves.{under}
use Rattle.model.specs.Judge.{updated, led}

-- Sets of variables are lists of their numbers. Is nothing left to cover?
unfoldable pub is_covered : List ℕ → Bool
is_covered [] = true
is_covered (k ∷ u) = false

-- what is still uncovered of u after edge e is taken: the variables that its update does not mention
unfoldable pub uncovered : List ℕ → Edge → List ℕ
uncovered u e = keep (λ k. not (mentions k e.update)) u

-- the variables whose values differ
unfoldable pub changed_in : Model → State → State → List ℕ
changed_in m s t = keep (λ k. not (eq_z (val s k) (val t k))) (count_up 0 (length m.variables))

-- automaton k keeps its location; every automaton of a composition does
unfoldable pub unmoved : State → State → ℕ → Bool
unmoved s t k = eqb (at s k) (at t k)

unfoldable pub all_unmoved : State → State → Tree → Bool
all_unmoved s t c = every (unmoved s t) (leaves c)

-- each of the left with each of the right
unfoldable pub together : List (List ℕ) → List (List ℕ) → List (List ℕ)
together xs ys = flat_map (λ x. map (λ y. x ++ y) ys) xs

unfoldable pub only_if : Bool → List (List ℕ) → List (List ℕ)
only_if true xs = xs
only_if false xs = []

-- by whether the action is in the left's set, and in the right's: both take it (rule 3), or one side does (rule 4)
unfoldable pub ways : Bool → Bool → (both left right : List (List ℕ)) → List (List ℕ)
ways true true both left right = both
ways true false both left right = left
ways false true both left right = right
ways false false both left right = left ++ right

-- from state s to state t under action a
module _ (m : Model) (s : State) (a : ℕ) (t : State) where
  -- the edges that automaton k can take: its edges under the action whose updates hold and that lead from its old
  -- location to its new one, in file order
  unfoldable pub is_candidate : ℕ → Edge → Bool
  is_candidate k e = updated s t (record { automaton = k; edge = e }) && led s t (record { automaton = k; edge = e })

  unfoldable pub candidates : ℕ → List Edge
  candidates k = keep (is_candidate k) (under a (automaton m k).edges)

  -- The sets of automata of a composition that can take the action together, while the others keep their locations.
  unfoldable pub taker_sets : Tree → List (List ℕ)
  taker_sets (par c d) =
      ways (in_set m a c) (in_set m a d)
      (together (taker_sets c) (taker_sets d))
      (only_if (all_unmoved s t d) (taker_sets c))
      (only_if (all_unmoved s t c) (taker_sets d))
  taker_sets (syn list c) = taker_sets c
  taker_sets (ini p c) = taker_sets c
  taker_sets (leaf k) = (k ∷ []) ∷ []

  -- Can these automata each choose one of their candidates, so that `on` holds of what is then uncovered?
  unfoldable pub choosing : List ℕ → (List ℕ → Bool) → List ℕ → Bool
  choosing [] on u = on u
  choosing (k ∷ ks) on u = exists (λ e. choosing ks on (uncovered u e)) (candidates k)

  -- some takers can, so that nothing is uncovered
  unfoldable pub search : Bool
  search = exists (λ ks. choosing ks is_covered (changed_in m s t)) (taker_sets m.tree)
