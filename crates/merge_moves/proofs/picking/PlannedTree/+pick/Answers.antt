-- `merge_moves::picking::PlannedTree::pick` calls itself, and meets its contract. The way out that the check does not find
-- alone is a law of PickLaws.
use Rattle.merge_moves.proofs.PickLaws.{pick_leaf}
use borrow.Author.Rules.{rules}
use Rattle.merge_moves.proofs.picking.PlannedTree.+pick.Goals as goal

pub returns-in-Leaf : goal.returns-in-Leaf
returns-in-Leaf t c = search (rules, pick_leaf)
