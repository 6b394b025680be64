-- Membership in the synchronising set of a subtree, from its words. On a tree's words it is `in_set`: the law
-- in_set_of.
use Rattle.std.specs.Prelude.{Bool, false, ◌||◌, List, ℕ, zero, suc, get_or}
use Rattle.model.specs.Basic.{member}
use Rattle.model.specs.Bounds.{max_tree_nodes}
use Rattle.model.specs.Table.{bit, set_of}
use Rattle.table_tree.specs.declared.nodes.Found.{Found}
use Rattle.table_tree.specs.declared.nodes.Found.TheVariants.{Par, Syn, Leaf, Stray}
use Rattle.table_tree.specs.declared.members.Membership.{Membership}
use Rattle.table_tree.specs.Nodes.{node_at}

-- the answer, where the words after the subtree begin, and how many nodes are left there
abbrev pub membership : Bool → (next left : ℕ) → Membership
membership b next left = record { inside = b; next = next; left = left }

-- The subtree that begins with a node, where M reads the subtree at a place with so many nodes left. The right side
-- gets what the left one has left.
unfoldable pub member_by : (M : (left at : ℕ) → Membership) (sets : List ℕ) (action left at : ℕ) → Found → Membership
member_by M sets action left at (Par next) =
    let c = M left next in
    let d = M c.left c.next in
    membership (c.inside || d.inside) d.next d.left
member_by M sets action left at (Syn a b next) =
    let c = M left next in
    membership (member action (set_of a b) || c.inside) c.next c.left
member_by M sets action left at (Leaf k next) = membership (bit (get_or sets k 0) action) next left
member_by M sets action left at Stray = membership false at left

-- The subtree at `at`, with `left` nodes left; `sets` has the automata's own sets. A node uses one, and none is read
-- where none is left.
module _ (words sets : List ℕ) (action : ℕ) where
  unfoldable pub member_step : (M : (left at : ℕ) → Membership) → (left at : ℕ) → Membership
  member_step M zero at = membership false at 0
  member_step M (suc n) at = member_by M sets action n at (node_at words at)

  -- with calls nested at most `deep`
  unfoldable pub member_within : (deep left at : ℕ) → Membership
  member_within zero left at = membership false at left
  member_within (suc d) left at = member_step (λ l a. member_within d l a) left at

  -- calls cannot nest deeper than there are nodes, so this is a step of itself: the law member_is
  unfoldable pub member_at : (left at : ℕ) → Membership
  member_at left at = member_within left left at

-- no tree has more nodes than `max_tree_nodes`
unfoldable pub in_set_at : (words sets : List ℕ) (action at : ℕ) → Bool
in_set_at words sets action at = (member_at words sets action max_tree_nodes at).inside
