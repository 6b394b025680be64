-- The merged edges, with repeats, are counted without being listed.
use Prim.Native.Nat.{ℕ, suc, ◌*◌}
use mathlib.Core.Path.{◌≡◌, refl, sym, ◌∙◌}
use mathlib.Core.Bool.{Bool, true, false}
use mathlib.Core.List.{List, [], ◌∷◌, ◌++◌, map, flat_map}
use native.Mathlib.Nat.{zero-mul, suc-mul, add_comm}
use lib.ListN.{length, length-append, length-map}
use Rattle.model.specs.Basic.{sum, count_up}
use Rattle.model.specs.Composition.{Tree, par, syn, ini, leaf}
use Rattle.model.specs.Model.{Model, automaton, in_set}
use Rattle.model.specs.Rules.{Taker}
use Rattle.model.specs.Moves.{pairs, sides, under, alone, moves, sides_count, move_count}
use Rattle.model.specs.Linear.{merged_edge, edges_with_repeats}
use Rattle.model.specs.Repeats.{count_with_repeats}

pairs_length : (xs ys : List (List Taker)) → length (pairs xs ys) ≡ length xs * length ys
unfolding pairs
pairs_length [] ys = sym (zero-mul (length ys))
pairs_length (x ∷ xs) ys =
    length-append (map (λ y. x ++ y) ys) (pairs xs ys)
    ∙ rw (length-map ys (λ y. x ++ y), pairs_length xs ys, suc-mul (length xs) (length ys)) (add_comm (length ys) (length xs * length ys))

sides_length : (b e : Bool) (xs ys : List (List Taker)) → length (sides b e xs ys) ≡ sides_count b e (length xs) (length ys)
unfolding sides sides_count
sides_length true true xs ys = pairs_length xs ys
sides_length true false xs ys = refl
sides_length false true xs ys = refl
sides_length false false xs ys = length-append xs ys

-- the moves of a composition, counted
pub moves_length : (m : Model) (a : ℕ) (c : Tree) → length (moves m a c) ≡ move_count m a c
unfolding moves move_count
moves_length m a (par c d) = sides_length (in_set m a c) (in_set m a d) (moves m a c) (moves m a d) ∙ rw (moves_length m a c, moves_length m a d)
moves_length m a (syn list c) = moves_length m a c
moves_length m a (ini p c) = moves_length m a c
moves_length m a (leaf k) = length-map (under a (automaton m k).edges) (alone k)

edges_length : (m : Model) (l : List ℕ) → length (flat_map (λ a. map (merged_edge m a) (moves m a m.tree)) l) ≡ sum (map (λ a. move_count m a m.tree) l)
unfolding flat_map sum
edges_length m [] = refl
edges_length m (a ∷ l) =
    length-append (map (merged_edge m a) (moves m a m.tree)) (flat_map (λ b. map (merged_edge m b) (moves m b m.tree)) l)
    ∙ rw (length-map (moves m a m.tree) (merged_edge m a), moves_length m a m.tree, edges_length m l)

-- the count is the number of merged edges with repeats
pub repeats_counted : (m : Model) → length (edges_with_repeats m) ≡ count_with_repeats m
unfolding edges_with_repeats count_with_repeats
repeats_counted m = edges_length m (count_up 0 (suc m.actions))
