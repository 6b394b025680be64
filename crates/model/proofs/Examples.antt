-- Small computed examples that pin what the laws leave open: sets, the order of merged edges, intervals, sizes, equal
-- edges.
use Prim.Native.Nat.{ℕ}
use mathlib.Core.Path.{◌≡◌, refl}
use mathlib.Core.Bool.{true, false}
use mathlib.Core.List.{List, [], ◌∷◌, map}
use lib.IntN.{pos, negsuc}
use lib.Dec.{eqb}
use Rattle.model.specs.Basic.{eq_z, exists, keep, once, member, count_up}
use Rattle.model.specs.Predicate.{Pred, Range, range, all, negate, eq, num, old, add, sub, mul, choose, none, words, operands, node_count, depth, least, greatest, hull, times, interval}
use Rattle.model.specs.Composition.{Tree, par, syn, leaf}
use Rattle.model.specs.Model.{Model, Edge, Automaton, in_set}
use Rattle.model.specs.Equal.{word_kind, word_number, same_word, same_words, same_edge}
use Rattle.model.specs.Moves.{pairs, sides, under, moves}

-- an automaton whose edges under action 1 lead to these locations; `true` says nothing
abbrev true' : Pred
true' = all none

abbrev to : ℕ → Edge
to k = record { from = 0; action = 1; to = k; update = true' }

abbrev automaton : List ℕ → List ℕ → Automaton
automaton sync targets = record { sync = sync; locations = []; edges = map to targets }

abbrev model : List Automaton → Tree → Model
model automata tree = record { format = 1; actions = 3; variables = []; owners = []; automata = automata; tree = tree }

abbrev three : List ℕ → List ℕ → List ℕ → Tree → Model
three x y z tree = model (automaton x (0 ∷ 1 ∷ []) ∷ automaton y (2 ∷ 3 ∷ []) ∷ automaton z (4 ∷ 5 ∷ []) ∷ []) tree

abbrev left : Tree
left = par (par (leaf 0) (leaf 1)) (leaf 2)

-- the set of a composition, as a list
abbrev set : Model → Tree → List ℕ
set m c = keep (λ a. in_set m a c) (count_up 0 4)

-- `par` unites, `syn` adds
pub sets :
    set (three (1 ∷ []) [] (2 ∷ []) left) (leaf 1) ∷
    set (three (1 ∷ []) [] (2 ∷ []) left) left ∷
    set (three (1 ∷ []) [] (2 ∷ []) left) (syn (1 ∷ 3 ∷ []) (leaf 1)) ∷
    set (three (1 ∷ []) [] (2 ∷ []) left) (par (syn (3 ∷ []) (leaf 0)) (leaf 1)) ∷
    [] ≡ [] ∷ (1 ∷ 2 ∷ []) ∷ (1 ∷ 3 ∷ []) ∷ (1 ∷ 3 ∷ []) ∷ []
unfolding keep in_set member exists count_up
sets = refl

-- the targets of the takers, move by move
abbrev targets : Model → List (List ℕ)
targets m = map (map (λ x. x.edge.to)) (moves m 1 m.tree)

-- all share it: pairs with the left slowest
pub shared : targets (three (1 ∷ []) (1 ∷ []) (1 ∷ []) left) ≡
    (0 ∷ 2 ∷ 4 ∷ []) ∷ (0 ∷ 2 ∷ 5 ∷ []) ∷ (0 ∷ 3 ∷ 4 ∷ []) ∷ (0 ∷ 3 ∷ 5 ∷ []) ∷
    (1 ∷ 2 ∷ 4 ∷ []) ∷ (1 ∷ 2 ∷ 5 ∷ []) ∷ (1 ∷ 3 ∷ 4 ∷ []) ∷ (1 ∷ 3 ∷ 5 ∷ []) ∷ []
unfolding moves sides pairs under keep in_set member exists
shared = refl

-- nobody shares it: the left's, then the right's. One shares it: that one alone. Two share it: the third can't take it alone.
pub unshared :
    targets (three [] [] [] left) ∷
    targets (three [] [] (1 ∷ []) left) ∷
    targets (three [] (1 ∷ []) (1 ∷ []) left) ∷
    targets (three [] [] [] (syn (1 ∷ []) left)) ∷
    targets (three [] [] (1 ∷ []) (par (syn (1 ∷ []) (par (leaf 0) (leaf 1))) (leaf 2))) ∷
    [] ≡
    ((0 ∷ []) ∷ (1 ∷ []) ∷ (2 ∷ []) ∷ (3 ∷ []) ∷ (4 ∷ []) ∷ (5 ∷ []) ∷ []) ∷
    ((4 ∷ []) ∷ (5 ∷ []) ∷ []) ∷
    ((2 ∷ 4 ∷ []) ∷ (2 ∷ 5 ∷ []) ∷ (3 ∷ 4 ∷ []) ∷ (3 ∷ 5 ∷ []) ∷ []) ∷
    ((0 ∷ []) ∷ (1 ∷ []) ∷ (2 ∷ []) ∷ (3 ∷ []) ∷ (4 ∷ []) ∷ (5 ∷ []) ∷ []) ∷
    ((0 ∷ 4 ∷ []) ∷ (0 ∷ 5 ∷ []) ∷ (1 ∷ 4 ∷ []) ∷ (1 ∷ 5 ∷ []) ∷ (2 ∷ 4 ∷ []) ∷ (2 ∷ 5 ∷ []) ∷ (3 ∷ 4 ∷ []) ∷ (3 ∷ 5 ∷ []) ∷ []) ∷
    []
unfolding moves sides pairs under keep in_set member exists
unshared = refl

-- intervals, for v0 from -2 to 3 and v1 from 1 to 4
abbrev declared : List Range
declared = range (negsuc 1) (pos 3) ∷ range (pos 1) (pos 4) ∷ []

pub intervals :
    interval declared (add (old 0) (old 1)) ∷
    interval declared (sub (old 0) (old 1)) ∷
    interval declared (mul (old 0) (old 1)) ∷
    interval declared (mul (old 0) (old 0)) ∷
    interval declared (mul (num (negsuc 0)) (old 1)) ∷
    interval declared (choose true' (old 0) (old 1)) ∷
    interval declared (choose true' (old 1) (old 0)) ∷
    [] ≡
    range (negsuc 0) (pos 7) ∷ range (negsuc 5) (pos 2) ∷ range (negsuc 7) (pos 12) ∷ range (negsuc 5) (pos 9) ∷
    range (negsuc 3) (negsuc 0) ∷ range (negsuc 1) (pos 4) ∷ range (negsuc 1) (pos 4) ∷ []
unfolding interval times hull least greatest range
intervals = refl

-- nodes and depth of `all 0`, `eq v0 0`, `not eq v0 add v0 1`
abbrev examples : List Pred
examples = true' ∷ eq (old 0) (num (pos 0)) ∷ negate (eq (old 0) (add (old 0) (num (pos 1)))) ∷ []

pub sizes : map node_count examples ≡ 1 ∷ 3 ∷ 6 ∷ []
unfolding node_count words operands
sizes = refl

pub depths : map depth examples ≡ 1 ∷ 2 ∷ 4 ∷ []
unfolding depth
depths = refl

-- equal items stand once, at the first one's place
pub firsts : once eqb (3 ∷ 1 ∷ 3 ∷ 2 ∷ 1 ∷ []) ≡ 3 ∷ 1 ∷ 2 ∷ []
unfolding once keep
firsts = refl

-- an edge equals itself, and none that differs from it in FROM, ACT, TO or P alone
abbrev edge : (from action to : ℕ) → Pred → Edge
edge from action to p = record { from = from; action = action; to = to; update = p }

pub equal_edges : map (same_edge (edge 1 2 3 true')) (edge 1 2 3 true' ∷ edge 0 2 3 true' ∷ edge 1 0 3 true' ∷ edge 1 2 0 true' ∷ edge 1 2 3 (negate true') ∷ []) ≡ true ∷ false ∷ false ∷ false ∷ false ∷ []
unfolding same_edge same_words same_word word_kind word_number words operands eq_z
equal_edges = refl
