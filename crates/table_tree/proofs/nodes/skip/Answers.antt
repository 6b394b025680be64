-- `table_tree::nodes::skip` meets its contract: from each turn on, the definition goes on to the same answer.
use Rattle.table_tree.proofs.NodeLaws.{skip_laws}
use mathlib.Core.Path.{◌≡◌}
use Prim.Native.Nat.{suc, ◌+◌, ◌-◌}
use native.Mathlib.Omega.{arith}
use Rattle.model.specs.Bounds.{max_tree_nodes}
use borrow.Author.Rules.{rules}
use Rattle.table_tree.proofs.nodes.skip.Goals as goal

pub loop-preserved : goal.loop-preserved
loop-preserved c =
    let more : max_tree_nodes - c.loop.counter ≡ suc (max_tree_nodes - (c.loop.counter + 1)) = omega arith in
    search (rules, skip_laws)
