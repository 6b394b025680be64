-- What stands at a place of the words, and where a subtree ends.
use Rattle.std.specs.Prelude.{true, false, ℕ, zero, suc, ◌+◌, ◌-◌, drop, eqb}
use mathlib.Core.List.{List, [], ◌∷◌, flat_map}
use Rattle.model.specs.Composition.{Tree, nodes}
use Rattle.model.specs.Table.{node_words}
use Rattle.table_tree.specs.declared.nodes.Found.{Found}
use Rattle.table_tree.specs.declared.nodes.Found.TheVariants.{Par, Syn, Leaf, Stray}

-- the words of a tree's nodes
abbrev pub tree_words : Tree → List ℕ
tree_words c = flat_map node_words (nodes c)

-- the node that some words begin with, at the place `at`; a `syn` with its set's two words
unfoldable pub node_in : (at : ℕ) → List ℕ → Found
node_in at [] = Stray
node_in at (zero ∷ ws) = Par (at + 1)
node_in at (suc zero ∷ []) = Stray
node_in at (suc zero ∷ a ∷ []) = Stray
node_in at (suc zero ∷ a ∷ b ∷ ws) = Syn a b (at + 3)
node_in at (suc (suc k) ∷ ws) = Leaf k (at + 1)

unfoldable pub node_at : (words : List ℕ) (at : ℕ) → Found
node_at words at = node_in at (drop at words)

-- where the words after a node begin, and how many subtrees are still to come
unfoldable pub after : Found → (at : ℕ) → ℕ
after (Par next) at = next
after (Syn a b next) at = next
after (Leaf k next) at = next
after Stray at = at

unfoldable pub owing : Found → (owed : ℕ) → ℕ
owing (Par next) owed = owed + 1
owing (Syn a b next) owed = owed
owing (Leaf k next) owed = owed - 1
owing Stray owed = 0

-- the place after so many subtrees, which have at most `left` nodes
unfoldable pub skip_from : (words : List ℕ) (left owed at : ℕ) → ℕ
skip_from words zero owed at = at
skip_from words (suc n) owed at =
    elim (eqb owed 0) [
      | true ↦ at
      | false ↦ skip_from words n (owing (node_at words at) owed) (after (node_at words at) at)
    ]
