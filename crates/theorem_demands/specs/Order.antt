-- "The merged text": in which order the merged edges stand, and how often each.
use Rattle.std.specs.Prelude.{ℕ, suc, ◌+◌, ◌*◌, ◌<◌, ◌≡◌, Bool, true, false, ◌&&◌, length, get_or, eqb}
use mathlib.Core.List.{List, [], ◌∷◌, ◌++◌, map, flat_map}
use Rattle.model.specs.Basic.{keep, once, count_up}
use Rattle.model.specs.Predicate.{Pred}
use Rattle.model.specs.Composition.{Tree, par, syn, ini, leaf}
use Rattle.model.specs.Model.{Model, Edge, automaton, in_set}
use Rattle.model.specs.Equal.{same_edge}
use Rattle.theorem_definition4.specs.Table3.{Position, at, WildCards}
use Rattle.theorem_definition4.specs.Definition4.{edge_for}

-- An action transition as Table 3 labels it: vs, r and vs'.
pub record Labels : Type 0 where
  pub vs : List Position
  pub r : List Pred
  pub vs' : List Position

abbrev pub nothing : Labels
nothing = record { vs = []; r = []; vs' = [] }

-- the left side's and the right side's together
unfoldable pub joined : Labels → Labels → Labels
joined x y = record { vs = x.vs ++ y.vs; r = x.r ++ y.r; vs' = x.vs' ++ y.vs' }

-- a side that is at rest has its wild-cards
unfoldable pub resting : List Position → Labels
resting xs = record { vs = xs; r = []; vs' = xs }

-- an automaton that takes an edge
unfoldable pub taking : Edge → Labels
taking e = record { vs = at e.from ∷ []; r = e.update ∷ []; vs' = at e.to ∷ [] }

-- zs are the pairs of xs and ys with the left slowest.
pub record LeftSlowest (xs ys zs : List Labels) : Type 0 where
  -- each pair stands there once
  pub count : length zs ≡ length xs * length ys
  -- that of place i of the left and place j of the right behind i whole rounds of the right
  pub places : (i j : ℕ) → i < length xs → j < length ys
      → get_or zs (i * length ys + j) nothing ≡ joined (get_or xs i nothing) (get_or ys j nothing)

-- one side's, if the other side's set lacks the action
unfoldable pub if_lacking : (has : Bool) → List Labels → List Labels
if_lacking true xs = []
if_lacking false xs = xs

module _ (m : Model) (a : ℕ) where
  -- The transitions of a composition under an action, in order.
  pub data InOrder : Tree → List Labels → Type 0 where
    -- in a leaf by file order
    in_leaf : {k : ℕ} → InOrder (leaf k) (map taking (keep (λ e. eqb e.action a) (automaton m k).edges))
    -- an action in both sets as pairs
    in_pairs : {c d : Tree} {xs ys zs : List Labels} → in_set m a c ≡ true → in_set m a d ≡ true
        → InOrder c xs → InOrder d ys → LeftSlowest xs ys zs
        → InOrder (par c d) zs
    -- else the left's if the right's set lacks it, then the right's if the left's set lacks it
    in_turn : {c d : Tree} {xs ys : List Labels} {cs ds : List Position} → (in_set m a c && in_set m a d) ≡ false
        → WildCards c cs → WildCards d ds → InOrder c xs → InOrder d ys
        → InOrder (par c d)
        (if_lacking (in_set m a d) (map (λ x. joined x (resting ds)) xs)
        ++ if_lacking (in_set m a c) (map (λ y. joined (resting cs) y) ys))
    -- of a `syn` those of what stands under it, and of an `ini`
    in_syn : {list : List ℕ} {c : Tree} {xs : List Labels} → InOrder c xs → InOrder (syn list c) xs
    in_ini : {p : Pred} {c : Tree} {xs : List Labels} → InOrder c xs → InOrder (ini p c) xs

-- the merged edges, equal ones once
pub record EdgesInOrder (m : Model) (edges : List Edge) : Type 0 where
  -- for each action its transitions
  pub transitions : (action : ℕ) → List Labels
  -- in order
  pub in_order : (action : ℕ) → InOrder m action m.tree (transitions action)
  -- an edge for each of them, by action from 0 up to A; of equal ones the first
  pub by_action : edges
      ≡ once same_edge
      (flat_map (λ a. map (λ x. edge_for (length m.variables) a x.vs x.r x.vs') (transitions a))
      (count_up 0 (suc m.actions)))
