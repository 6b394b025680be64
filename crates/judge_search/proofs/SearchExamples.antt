-- Small computed examples: the search and the definition give one answer.
use Prim.Native.Nat.{ℕ}
use mathlib.Core.Path.{◌≡◌, refl}
use mathlib.Core.Bool.{Bool, true, false}
use mathlib.Core.List.{List, [], ◌∷◌, map, flat_map}
use mathlib.Core.Option.{none}
use lib.IntN.{ℤ, pos}
use Rattle.model.specs.Basic.{eq_z, each, every, exists, keep, member, count_up}
use Rattle.model.specs.Predicate.{range, le, num, new, holds, value, words, words_of, named, is_new_of, mentions}
use Rattle.model.specs.Composition.{par, leaf, leaves}
use Rattle.model.specs.Model.{Model, Edge, Automaton, in_set}
use Rattle.model.specs.Rules.{running, State, mentioned}
use Rattle.model.specs.Moves.{pairs, sides, under, moves}
use Rattle.model.specs.Judge.{is_taker, updated, led, kept, framed, fits}
use Rattle.judge_search.specs.Search.{is_covered, uncovered, changed_in, unmoved, all_unmoved, together, only_if, ways, is_candidate, candidates, taker_sets, choosing, search}

-- an edge under action 1 that may change variable k: its new value is at least 0
abbrev writes : ℕ → Edge
writes k = record { from = 0; action = 1; to = 0; update = le (num (pos 0)) (new k) }

-- an automaton that shares action 1, or not, and may change one of these variables
abbrev automaton : List ℕ → List ℕ → Automaton
automaton sync ks = record { sync = sync; locations = []; edges = map writes ks }

abbrev model : List Automaton → Model
model automata = record {
  format = 1;
  actions = 1;
  variables = map (λ k. range (pos 0) (pos 1)) (count_up 0 5);
  owners = map (λ k. none) (count_up 0 5);
  automata = automata;
  tree = par (par (leaf 0) (leaf 1)) (par (leaf 2) (leaf 3));
}

-- states: the automata's locations, and the values of v0 to v4
abbrev state : List ℕ → List ℤ → State
state locations values = record { phase = running; locations = locations; values = values }

abbrev still : List ℕ
still = 0 ∷ 0 ∷ 0 ∷ 0 ∷ []

abbrev before : State
before = state still (pos 0 ∷ pos 0 ∷ pos 0 ∷ pos 0 ∷ pos 0 ∷ [])

-- the search's answer and the definition's
abbrev answers : Model → State → List Bool
answers m t = search m before 1 t ∷ exists (fits m before t) (moves m 1 m.tree) ∷ []

-- four automata share the action, three equal edges each: nothing changes, all that they write changes, one variable more
abbrev alike : Model
alike = model (map (λ k. automaton (1 ∷ []) (k ∷ k ∷ k ∷ [])) (count_up 0 4))

pub equal_edges :
    answers alike (state still (pos 0 ∷ pos 0 ∷ pos 0 ∷ pos 0 ∷ pos 0 ∷ [])) ∷
    answers alike (state still (pos 1 ∷ pos 1 ∷ pos 1 ∷ pos 1 ∷ pos 0 ∷ [])) ∷
    answers alike (state still (pos 1 ∷ pos 1 ∷ pos 1 ∷ pos 1 ∷ pos 1 ∷ [])) ∷
    [] ≡ (true ∷ true ∷ []) ∷ (true ∷ true ∷ []) ∷ (false ∷ false ∷ []) ∷ []
unfolding eq_z each every exists keep member count_up range holds value words words_of named is_new_of mentions leaves in_set mentioned pairs sides under moves is_taker updated led kept framed fits flat_map is_covered uncovered changed_in unmoved all_unmoved together only_if ways is_candidate candidates taker_sets choosing search
equal_edges = refl

-- four automata share it, and each may change one of two variables that it has in common with its neighbours: each takes its
-- first edge, each its second, some either, and five variables are too many for four
abbrev chained : List ℕ → List ℕ → Model
chained left right = model (
    automaton left (0 ∷ 1 ∷ []) ∷
    automaton left (1 ∷ 2 ∷ []) ∷
    automaton right (2 ∷ 3 ∷ []) ∷
    automaton right (3 ∷ 4 ∷ []) ∷ [])

abbrev all_share : Model
all_share = chained (1 ∷ []) (1 ∷ [])

pub different_edges :
    answers all_share (state still (pos 1 ∷ pos 1 ∷ pos 1 ∷ pos 1 ∷ pos 0 ∷ [])) ∷
    answers all_share (state still (pos 0 ∷ pos 1 ∷ pos 1 ∷ pos 1 ∷ pos 1 ∷ [])) ∷
    answers all_share (state still (pos 1 ∷ pos 0 ∷ pos 1 ∷ pos 0 ∷ pos 1 ∷ [])) ∷
    answers all_share (state still (pos 1 ∷ pos 1 ∷ pos 1 ∷ pos 1 ∷ pos 1 ∷ [])) ∷
    [] ≡ (true ∷ true ∷ []) ∷ (true ∷ true ∷ []) ∷ (true ∷ true ∷ []) ∷ (false ∷ false ∷ []) ∷ []
unfolding eq_z each every exists keep member count_up range holds value words words_of named is_new_of mentions leaves in_set mentioned pairs sides under moves is_taker updated led kept framed fits flat_map is_covered uncovered changed_in unmoved all_unmoved together only_if ways is_candidate candidates taker_sets choosing search
different_edges = refl

-- the left two share it, so the right two rest: what the left may change, what it may not, and a right one that moves; nobody
-- shares it, so one of them takes it: one variable changes, two do
pub not_shared :
    answers (chained (1 ∷ []) []) (state still (pos 1 ∷ pos 0 ∷ pos 1 ∷ pos 0 ∷ pos 0 ∷ [])) ∷
    answers (chained (1 ∷ []) []) (state still (pos 1 ∷ pos 0 ∷ pos 0 ∷ pos 1 ∷ pos 0 ∷ [])) ∷
    answers (chained (1 ∷ []) []) (state (0 ∷ 0 ∷ 0 ∷ 1 ∷ []) (pos 1 ∷ pos 0 ∷ pos 1 ∷ pos 0 ∷ pos 0 ∷ [])) ∷
    answers (chained [] []) (state still (pos 0 ∷ pos 0 ∷ pos 0 ∷ pos 0 ∷ pos 1 ∷ [])) ∷
    answers (chained [] []) (state still (pos 0 ∷ pos 0 ∷ pos 1 ∷ pos 0 ∷ pos 1 ∷ [])) ∷
    [] ≡ (true ∷ true ∷ []) ∷ (false ∷ false ∷ []) ∷ (false ∷ false ∷ []) ∷ (true ∷ true ∷ []) ∷ (false ∷ false ∷ []) ∷ []
unfolding eq_z each every exists keep member count_up range holds value words words_of named is_new_of mentions leaves in_set mentioned pairs sides under moves is_taker updated led kept framed fits flat_map is_covered uncovered changed_in unmoved all_unmoved together only_if ways is_candidate candidates taker_sets choosing search
not_shared = refl

-- who can take it together: where the left two share it, both of them, if the right two keep their locations; where nobody does, one
pub who_takes :
    taker_sets (chained (1 ∷ []) []) before 1 before (chained (1 ∷ []) []).tree ∷
    taker_sets (chained (1 ∷ []) []) before 1 (state (0 ∷ 0 ∷ 0 ∷ 1 ∷ []) []) (chained (1 ∷ []) []).tree ∷
    taker_sets (chained [] []) before 1 before (chained [] []).tree ∷
    [] ≡ ((0 ∷ 1 ∷ []) ∷ []) ∷ [] ∷ ((0 ∷ []) ∷ (1 ∷ []) ∷ (2 ∷ []) ∷ (3 ∷ []) ∷ []) ∷ []
unfolding exists every member leaves in_set flat_map unmoved all_unmoved together only_if ways taker_sets
who_takes = refl
