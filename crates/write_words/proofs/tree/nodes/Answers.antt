-- The first i nodes are written, and the walk is after them.
use Rattle.write_words.proofs.NodeLaws.{nodes_laws}
use borrow.Author.Rules.{rules}
use Rattle.write_words.proofs.tree.nodes.Goals as goal

pub loop-i-init : goal.loop-i-init
loop-i-init c = search (rules, nodes_laws)

pub loop-i-preserved : goal.loop-i-preserved
loop-i-preserved c = search (rules, nodes_laws)
