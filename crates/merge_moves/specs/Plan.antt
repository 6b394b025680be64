-- The plan of an action, from the words of a tree. On a lawful tree's words it has each subtree's membership and its
-- count of moves, capped: the laws plan_is and fill_is.
use Rattle.std.specs.Prelude.{◌≡◌, Bool, true, false, ◌||◌, List, ℕ, zero, suc, ◌-◌, get_or, set, ltb}
use Rattle.model.specs.Basic.{member}
use Rattle.model.specs.Moves.{sides_count}
use Rattle.model.specs.Table.{bit, set_of}
use Rattle.table_tree.specs.declared.nodes.Found.{Found}
use Rattle.table_tree.specs.declared.nodes.Found.TheVariants.{Par, Syn, Leaf, Stray}
use Rattle.table_tree.specs.Nodes.{node_at}
use Rattle.merge_moves.specs.declared.planning.Planned.{Planned}
use Rattle.merge_moves.specs.Capping.{capped, max_cells, cell_of}

-- the answer, where the words after the subtree begin, and how many nodes are left there
abbrev pub planned : Bool → (count next left : ℕ) → Planned
planned b count next left = record { inside = b; count = count; next = next; left = left }

-- a `par` by its sides, a `syn` by its list and what is under it, and a leaf
unfoldable pub par_plan : Planned → Planned → Planned
par_plan c d =
    planned (c.inside || d.inside)
    (capped (sides_count c.inside d.inside (capped c.count) (capped d.count)))
    d.next
    d.left

unfoldable pub syn_plan : List ℕ → (action : ℕ) → Planned → Planned
syn_plan list action c = planned (member action list || c.inside) c.count c.next c.left

unfoldable pub leaf_plan : (sets under : List ℕ) (action k next left : ℕ) → Planned
leaf_plan sets under action k next left = planned (bit (get_or sets k 0) action) (capped (get_or under k 0)) next left

-- The subtree that begins with a node, where P plans the subtree at a place with so many nodes left. The right side
-- gets what the left one has left.
unfoldable pub plan_by : (P : (left at : ℕ) → Planned) (sets under : List ℕ) (action left at : ℕ) → Found → Planned
plan_by P sets under action left at (Par next) = let c = P left next in par_plan c (P c.left c.next)
plan_by P sets under action left at (Syn a b next) = syn_plan (set_of a b) action (P left next)
plan_by P sets under action left at (Leaf k next) = leaf_plan sets under action k next left
plan_by P sets under action left at Stray = planned false 0 at left

-- The subtree at `at`, with `left` nodes left; `sets` has the automata's own sets, `under` their counts of edges under
-- the action. A node uses one, and none is read where none is left.
module _ (words sets under : List ℕ) (action : ℕ) where
  unfoldable pub plan_step : (P : (left at : ℕ) → Planned) → (left at : ℕ) → Planned
  plan_step P zero at = planned false 0 at 0
  plan_step P (suc n) at = plan_by P sets under action n at (node_at words at)

  -- with calls nested at most `deep`
  unfoldable pub plan_within : (deep left at : ℕ) → Planned
  plan_within zero left at = planned false 0 at left
  plan_within (suc d) left at = plan_step (λ l a. plan_within d l a) left at

  -- calls cannot nest deeper than there are nodes, so this is a step of itself: the law plan_step_lem
  unfoldable pub plan_at : (left at : ℕ) → Planned
  plan_at left at = plan_within left left at

-- a node has its cell filled, at its word's place counted from the root's
unfoldable pub stored : (root at : ℕ) → Planned → List ℕ → List ℕ
stored root at p cells =
    elim (ltb (at - root) max_cells) [
      | true ↦ set cells (at - root) (cell_of p.inside p.count)
      | false ↦ cells
    ]

-- the cells after those below a node are filled, where P plans the subtree at a place, and F fills its cells
unfoldable pub fill_by : (P : (left at : ℕ) → Planned) (F : (left at : ℕ) → List ℕ → List ℕ) (left : ℕ)
    → Found → List ℕ → List ℕ
fill_by P F left (Par next) cells = let c = P left next in F c.left c.next (F left next cells)
fill_by P F left (Syn a b next) cells = F left next cells
fill_by P F left (Leaf k next) cells = cells
fill_by P F left Stray cells = cells

-- the cells after each node of the subtree has its own
module _ (words sets under : List ℕ) (action root : ℕ) where
  unfoldable pub fill_step : (F : (left at : ℕ) → List ℕ → List ℕ) → (left at : ℕ) → List ℕ → List ℕ
  fill_step F zero at cells = cells
  fill_step F (suc n) at cells =
      stored root at (plan_at words sets under action (suc n) at)
      (fill_by (plan_at words sets under action) F n (node_at words at) cells)

  unfoldable pub fill_within : (deep left at : ℕ) → List ℕ → List ℕ
  fill_within zero left at cells = cells
  fill_within (suc d) left at cells = fill_step (λ l a es. fill_within d l a es) left at cells

  unfoldable pub fill_at : (left at : ℕ) → List ℕ → List ℕ
  fill_at left at cells = fill_within left left at cells

-- the answer, and the cells after it
pub record PlansTree (words sets under : List ℕ) (action root left at : ℕ) (before after : List ℕ) (p : Planned)
    : Type 0 where
  pub answer : p ≡ plan_at words sets under action left at
  pub cells : after ≡ fill_at words sets under action root left at before
