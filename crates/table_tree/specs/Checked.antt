-- The check of a tree's words. It finds an end of the words of a lawful tree, with the number of its `ini`, and of no
-- others: the laws tree_check_of and tree_check_back.
use Rattle.std.specs.Prelude.{true, false, ◌&&◌, Option, Some, None, List, ℕ, zero, suc, ◌+◌, ◌-◌, length, get_or}
use Rattle.std.specs.Prelude.{eqb, leb, ltb}
use Rattle.model.specs.Bounds.{max_tree_nodes}
use Rattle.model.specs.Limits.{rises}
use Rattle.model.specs.Table.{set_of}
use Rattle.table_tree.specs.declared.nodes.Found.{Found}
use Rattle.table_tree.specs.declared.nodes.Found.TheVariants.{Par, Syn, Leaf, Stray}
use Rattle.table_tree.specs.declared.checked.Step.{Step}
use Rattle.table_tree.specs.declared.checked.TreeEnd.{TreeEnd}
use Rattle.table_tree.specs.Sets.{unfilled}
use Rattle.table_tree.specs.Nodes.{node_at}

abbrev pub step_to : (next owed leaves inis : ℕ) → Option Step
step_to next owed leaves inis = Some (record { next = next; owed = owed; leaves = leaves; inis = inis })

abbrev pub tree_end : (next inis : ℕ) → Option TreeEnd
tree_end next inis = Some (record { next = next; inis = inis })

-- One node, where subtrees are owed. Row 5 asks that a `syn` has a set of actions up to A; row 14 that the leaves come
-- in order. Row 13 has nothing to ask: a set without actions is that of an `ini`, which is counted.
unfoldable pub step_by : (A owed leaves inis : ℕ) → Found → Option Step
step_by A owed leaves inis (Par next) = step_to next (owed + 1) leaves inis
step_by A owed leaves inis (Syn a b next) =
    elim (rises A 0 (set_of a b)) [ true ↦ step_to next owed leaves (inis + unfilled (set_of a b)) | false ↦ None ]
step_by A owed leaves inis (Leaf k next) =
    elim (eqb k leaves) [ true ↦ step_to next (owed - 1) (leaves + 1) inis | false ↦ None ]
step_by A owed leaves inis Stray = None

unfoldable pub step_of : (A owed leaves inis : ℕ) → Found → Option Step
step_of A owed leaves inis f = elim (eqb owed 0) [ true ↦ None | false ↦ step_by A owed leaves inis f ]

unfoldable pub onward : (ℕ → ℕ → ℕ → ℕ → Option TreeEnd) → Option Step → Option TreeEnd
onward go (Some s) = go s.next s.owed s.leaves s.inis
onward go None = None

-- `left` more nodes are to make up the subtrees owed, with N leaves in all
unfoldable pub check_from : (words : List ℕ) (A N : ℕ) (left next owed leaves inis : ℕ) → Option TreeEnd
check_from words A N zero next owed leaves inis =
    elim (eqb owed 0 && eqb leaves N) [ true ↦ tree_end next inis | false ↦ None ]
check_from words A N (suc n) next owed leaves inis =
    onward (λ m o l i. check_from words A N n m o l i) (step_of A owed leaves inis (node_at words next))

-- the tree at `at`, where its count of nodes stands; row 16 says how many it may have
unfoldable pub tree_check : (words : List ℕ) (at A N : ℕ) → Option TreeEnd
tree_check words at A N =
    elim (ltb at (length words)) [
      | false ↦ None
      | true ↦
          elim (leb (get_or words at 0) max_tree_nodes) [
            | false ↦ None
            | true ↦ check_from words A N (get_or words at 0) (at + 1) 1 0 0
          ]
    ]
