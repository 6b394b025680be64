-- The first i nodes are written, and the walk is after them.
use Rattle.write_words.proofs.NodeLaws.{Walked}
use Rattle.write_words.proofs.tree.nodes.Given as goal

abbrev pub invariant-loop-i : goal.invariant-loop-i
invariant-loop-i l = Walked l.ws l.ps l.initial.out l.i l.next l.start l.out
