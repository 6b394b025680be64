-- Counts of moves, and the cells that keep them.
use Rattle.std.specs.Prelude.{Bool, true, false, ℕ, ◌+◌, ◌*◌, ◌%◌, eqb, leb}
use Rattle.model.specs.Bounds.{max_edges}

-- row 32 asks whether there are more merged edges than this: a count above it is one more, whatever it is
abbrev pub too_many : ℕ
too_many = 513

unfoldable pub capped : ℕ → ℕ
capped x = elim (leb x max_edges) [ true ↦ x | false ↦ too_many ]

-- the cells of a plan: a tree has at most `max_tree_nodes` nodes, and a node at most three words
abbrev pub max_cells : ℕ
max_cells = 192

-- a subtree's cell: its count, and whether the action is in its set
unfoldable pub cell_of : (inside : Bool) (count : ℕ) → ℕ
cell_of true count = capped count * 2 + 1
cell_of false count = capped count * 2

unfoldable pub inside_of : (cell : ℕ) → Bool
inside_of cell = eqb (cell % 2) 1
