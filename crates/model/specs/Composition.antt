-- "The sheet text": the composition tree of `par C C`, `syn LIST C`, `ini P C` (request (a)) and `aK`.
use Rattle.std.specs.Prelude.{ℕ, length}
use mathlib.Core.List.{List, [], ◌∷◌, ◌++◌, flat_map}
use Rattle.model.specs.Predicate.{Pred, words}

pub data Tree : Type 0 where
  par : Tree → Tree → Tree
  syn : List ℕ → Tree → Tree
  ini : Pred → Tree → Tree
  leaf : ℕ → Tree

-- the leaves, left to right (row 14)
unfoldable pub leaves : Tree → List ℕ
leaves (par c d) = leaves c ++ leaves d
leaves (syn list c) = leaves c
leaves (ini p c) = leaves c
leaves (leaf k) = k ∷ []

-- the start conditions, in tree order: left to right, the outer one first
unfoldable pub starts : Tree → List Pred
starts (par c d) = starts c ++ starts d
starts (syn list c) = starts c
starts (ini p c) = p ∷ starts c
starts (leaf k) = []

-- their nodes (row 11)
unfoldable pub start_nodes : Tree → ℕ
start_nodes c = length (flat_map words (starts c))

-- The nodes, in prefix order; a `syn` and its list are one node, and so are an `ini` and its P.
-- `stray_node` is in no tree: a token or a table word that is none of the others is read as it.
pub data Node : Type 0 where
  par_node : Node
  syn_node : List ℕ → Node
  ini_node : Pred → Node
  leaf_node : ℕ → Node
  stray_node : Node

unfoldable pub nodes : Tree → List Node
nodes (par c d) = par_node ∷ nodes c ++ nodes d
nodes (syn list c) = syn_node list ∷ nodes c
nodes (ini p c) = ini_node p ∷ nodes c
nodes (leaf k) = leaf_node k ∷ []

unfoldable pub tree_size : Tree → ℕ
tree_size c = length (nodes c)
