-- `merge_table::linearize_once` meets its contract: each way out is a law of LinearizeIs.
use lib.ListN.{length-replicate}
use Rattle.merge_table.proofs.LinearizeIs.{copied_long, linearize_once_laws}
use borrow.Author.Rules.{rules}
use Rattle.merge_table.proofs.linearize_once.Goals as goal

pub slice_bounds-linearize-end : goal.slice_bounds-linearize-end
slice_bounds-linearize-end c = search (rules, copied_long, length-replicate)

pub returns-then-repeats : goal.returns-then-repeats
returns-then-repeats c = search (rules, linearize_once_laws)

pub returns : goal.returns
returns c = search (rules, linearize_once_laws)
