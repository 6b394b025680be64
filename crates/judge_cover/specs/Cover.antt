-- Can the automata that take an action each choose one of their edges so that every changed variable is mentioned?
-- Sets of variables are numbers, bit K for variable K. An edge is given by the set of the variables that its update
-- does not mention, an automaton by the group of its edges.
use Rattle.std.specs.Prelude.{ℕ, suc, ◌+◌, ◌-◌, Bool, true, false, not, ◌&&◌, ◌||◌, List, [], ◌∷◌, map, get_or, eqb}
use Rattle.std.specs.Prelude.{leb, ltb}
use Rattle.std.specs.Int.Bits.{bit_and}
use Rattle.std.specs.Int.Count.{ones}
use Rattle.model.specs.Basic.{every, exists, keep, count_up}
use Rattle.model.specs.Bounds.{max_automata}
use Rattle.model.specs.Table.{bit}

-- One edge is chosen of each group. What it mentions is covered, and in the end nothing of u may be left.
unfoldable pub coverable : List (List ℕ) → ℕ → Bool
coverable [] u = eqb u 0
coverable (g ∷ gs) u = exists (λ r. coverable gs (bit_and u r)) g

-- a group: the sets from one place up to another; past the end stands 0
unfoldable pub group : (masks : List ℕ) (from to : ℕ) → List ℕ
group masks from to = map (λ i. get_or masks i 0) (count_up from (to - from))

-- n groups, by where each begins and ends
unfoldable pub groups : (masks froms tos : List ℕ) (n : ℕ) → List (List ℕ)
groups masks froms tos n = map (λ k. group masks (get_or froms k 0) (get_or tos k 0)) (count_up 0 n)

-- the groups of the automata in a set of takers: automaton k's stands from the place `first` k up to `first` (k + 1)
unfoldable pub groups_of : (masks first : List ℕ) (takers : ℕ) → List (List ℕ)
groups_of masks first takers =
    map (λ k. group masks (get_or first k 0) (get_or first (suc k) 0)) (keep (bit takers) (count_up 0 max_automata))

-- What the search is made of.
-- is every variable of w in u?
unfoldable pub within : (w u : ℕ) → Bool
within w u = eqb (bit_and w u) w

-- what edge i leaves uncovered of u
unfoldable pub left_by : (masks : List ℕ) (u i : ℕ) → ℕ
left_by masks u i = bit_and u (get_or masks i 0)

-- Edge i is skipped for edge j, which leaves no more: one before it, or one that leaves less.
unfoldable pub dominated : (masks : List ℕ) (u i j : ℕ) → Bool
dominated masks u i j =
    within (left_by masks u j) (left_by masks u i) && (ltb j i || not (within (left_by masks u i) (left_by masks u j)))

-- for one of its group
unfoldable pub skipped_at : (masks : List ℕ) (from to u i : ℕ) → Bool
skipped_at masks from to u i = exists (dominated masks u i) (count_up from (to - from))

-- Edge i is worth a try for variable v: it mentions v, and it is not skipped.
unfoldable pub worth : (masks : List ℕ) (from to u v i : ℕ) → Bool
worth masks from to u v i = not (bit (get_or masks i 0) v) && not (skipped_at masks from to u i)

-- edge r does not mention v
unfoldable pub spares : (v r : ℕ) → Bool
spares v r = bit r v

-- an edge between two places mentions v
unfoldable pub named_in : (masks : List ℕ) (from to v : ℕ) → Bool
named_in masks from to v = exists (λ i. not (bit (get_or masks i 0) v)) (count_up from (to - from))

-- every group has an edge
unfoldable pub all_filled : (froms tos : List ℕ) (n : ℕ) → Bool
all_filled froms tos n = every (λ k. ltb (get_or froms k 0) (get_or tos k 0)) (count_up 0 n)

-- item i of a list without item k is this item of the list
unfoldable pub past : (k i : ℕ) → ℕ
past k i = elim (ltb i k) [ true ↦ i | false ↦ i + 1 ]

-- Where no edge of a group covers more than `gain`, and those of all groups together no more than `total`, an edge of
-- that group is of use only if the others can cover what it leaves.
unfoldable pub useful : (u total gain r : ℕ) → Bool
useful u total gain r = leb (ones (bit_and u r) + gain) total
