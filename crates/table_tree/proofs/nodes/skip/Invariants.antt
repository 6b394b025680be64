-- `table_tree::nodes::skip` meets its contract: from each turn on, the definition goes on to the same end.
use mathlib.Core.Path.{◌≡◌}
use Prim.Native.Nat.{◌+◌, ◌-◌, ◌≤◌}
use Rattle.model.specs.Bounds.{max_tree_nodes}
use Rattle.table_tree.specs.Nodes.{skip_from}
use Rattle.table_tree.proofs.nodes.skip.Given as goal

abbrev pub invariant-loop : goal.invariant-loop
invariant-loop l = (l.owed ≤ l.counter + 1) × (skip_from l.words (max_tree_nodes - l.counter) l.owed l.next ≡ skip_from l.words max_tree_nodes 1 l.at)
