-- The search over plain data. On a step's data it says whether some move fits the step: the law found_is.
-- Automata are named by a set, bit k for automaton k; candidates by the masks of the variables that their updates do
-- not mention.
use Rattle.std.specs.Prelude.{ℕ, zero, suc, ◌+◌, ◌*◌, ◌/◌, ◌%◌, ◌^◌, Bool, true, false, ◌&&◌, ◌||◌, List, eqb, leb, ltb}
use Rattle.model.specs.Bounds.{max_automata, max_tree_nodes}
use Rattle.model.specs.Table.{bit}
use Rattle.table_tree.specs.declared.nodes.Found.{Found}
use Rattle.table_tree.specs.declared.nodes.Found.TheVariants.{Par, Syn, Leaf, Stray}
use Rattle.table_tree.specs.Nodes.{node_at, skip_from}
use Rattle.table_tree.specs.Members.{in_set_at}
use Rattle.judge_cover.specs.Cover.{coverable, groups_of}

-- The duties are subtrees that stand one after the other from a place on. What each must do is a bit of a number, from
-- the lowest on: 1 takes the action, 0 rests. A last 1 stands above them.
abbrev pub max_duties : ℕ
max_duties = 2 ^ 62

-- How the sides of a `par` share the action: the two bits that are put in place of its own, the left side's the lower.
unfoldable pub shared_bits : (left right : Bool) → (ℕ → Bool) → Bool
shared_bits true true on = on 3
shared_bits true false on = on 1
shared_bits false true on = on 2
shared_bits false false on = on 1 || on 2

-- In what follows S goes on from a place, with the duties there and the automata that take the action so far.
-- Automaton k takes it. The tree names the automata in rising order.
unfoldable pub taken_by : (S : (at duties takers : ℕ) → Bool) (next duties k takers : ℕ) → Bool
taken_by S next duties k takers =
    elim (ltb k max_automata) [
      | false ↦ false
      | true ↦ elim (ltb takers (2 ^ k)) [ true ↦ S next duties (takers + 2 ^ k) | false ↦ false ]
    ]

-- a `par` whose sides stand from `next` on; no tree has too many duties
unfoldable pub parted_at : (words sets : List ℕ) (action : ℕ) (S : (at duties takers : ℕ) → Bool)
    → (next duties takers : ℕ) → Bool
parted_at words sets action S next duties takers =
    elim (ltb (duties / 2) max_duties) [
      | false ↦ false
      | true ↦
          elim (eqb (duties % 2) 0) [
            | true ↦ S next (duties / 2 * 4) takers
            | false ↦
                shared_bits (in_set_at words sets action next)
                (in_set_at words sets action (skip_from words max_tree_nodes 1 next))
                (λ b. S next (duties / 2 * 4 + b) takers)
          ]
    ]

module _ (words sets : List ℕ) (action : ℕ) (masks first : List ℕ) (still changed : ℕ) where
  -- the takers can cover the changed variables
  abbrev pub covered_by : (takers : ℕ) → Bool
  covered_by takers = coverable (groups_of masks first takers) changed

  -- the duties, the first of which begins with a node
  unfoldable pub seek_by : (S : (at duties takers : ℕ) → Bool) → (duties takers : ℕ) → Found → Bool
  seek_by S duties takers (Par next) = parted_at words sets action S next duties takers
  seek_by S duties takers (Syn a b next) = S next duties takers
  seek_by S duties takers (Leaf k next) =
      elim (eqb (duties % 2) 0) [
        | true ↦ bit still k && S next (duties / 2) takers
        | false ↦ taken_by S next (duties / 2) k takers
      ]
  seek_by S duties takers Stray = false

  -- Can the duties from `at` on be done, so that all takers together cover the changed variables? They have at most
  -- `left` nodes.
  unfoldable pub seek_at : (left at duties takers : ℕ) → Bool
  seek_at zero at duties takers = elim (leb duties 1) [ true ↦ covered_by takers | false ↦ false ]
  seek_at (suc n) at duties takers =
      elim (leb duties 1) [
        | true ↦ covered_by takers
        | false ↦ seek_by (λ a d x. seek_at n a d x) duties takers (node_at words at)
      ]

-- the one duty at first: the tree takes the action
unfoldable pub found_in : (words : List ℕ) (at : ℕ) (sets : List ℕ) (action : ℕ) (masks first : List ℕ)
    → (still changed : ℕ) → Bool
found_in words at sets action masks first still changed =
    seek_at words sets action masks first still changed max_tree_nodes at 3 0
