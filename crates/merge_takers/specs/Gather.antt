-- The takers of all merged edges, gathered: for each merged edge sixteen places, where the edges stand that the
-- automata take, 0 for an automaton that takes none (the wild-card).
use Rattle.std.specs.Prelude.{true, false, List, [], ◌++◌, length, map, ℕ, zero, suc, ◌+◌, ltb}
use Rattle.model.specs.Bounds.{max_edges}
use Rattle.table_append.specs.Append.{put}
use Rattle.table_places.specs.declared.layout.Layout.{Layout}
use Rattle.merge_append.specs.Append.{narrow, placed}
use Rattle.merge_takers.specs.Moves.{cells_of, move_total, places_of, last_action, moves_in}

module _ (t : List ℕ) (x : Layout) where
  -- of n moves of the planned action, from move k on
  unfoldable pub takers_from : (cells : List ℕ) (action k n : ℕ) → List ℕ
  takers_from cells action k zero = []
  takers_from cells action k (suc n) = places_of t x cells action k ++ takers_from cells action (k + 1) n

  -- of an action; of n actions, from one on; of all
  unfoldable pub takers_under : (own : List ℕ) (action : ℕ) → List ℕ
  takers_under own action = takers_from (cells_of t x own action) action 0 (move_total t x own action)

  unfoldable pub takers_of : (own : List ℕ) (action n : ℕ) → List ℕ
  takers_of own action zero = []
  takers_of own action (suc n) = takers_under own action ++ takers_of own (action + 1) n

  unfoldable pub takers_in : (own : List ℕ) → List ℕ
  takers_in own = takers_of own 0 (last_action x + 1)

  -- the lent list afterwards: more edges than a sheet can have (row 32) are not gathered
  unfoldable pub gathered : (own old : List ℕ) → List ℕ
  gathered own old =
      elim (ltb max_edges (moves_in t x own)) [ true ↦ old | false ↦ put 0 (map narrow (takers_in own)) old ]

  -- and how many of its words are filled
  unfoldable pub gathered_length : (own : List ℕ) (before : ℕ) → ℕ
  gathered_length own before =
      elim (ltb max_edges (moves_in t x own)) [ true ↦ before | false ↦ placed 0 (length (takers_in own)) ]
