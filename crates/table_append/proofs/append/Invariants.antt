-- `table_append::append` meets its contract: what is left goes on from the place that was reached.
use lib.ListN.{drop}
use Rattle.table_append.proofs.Joined.{Onward}
use Rattle.table_append.proofs.append.Given as goal

abbrev pub invariant-loop-word : goal.invariant-loop-word
invariant-loop-word l = Onward l.added l.at l.initial.words (drop l.word-index l.added) l.next l.words
