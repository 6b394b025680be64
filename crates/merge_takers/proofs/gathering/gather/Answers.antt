-- `merge_takers::gathering::gather` meets its contract.
use Rattle.merge_takers.proofs.GatheringLaws.{gather_laws}
use borrow.Author.Rules.{rules}
use Rattle.merge_takers.proofs.gathering.gather.Goals as goal

pub returns-then-count-gt-EDGES : goal.returns-then-count-gt-EDGES
returns-then-count-gt-EDGES c = search (rules, gather_laws)

pub returns : goal.returns
returns c = search (rules, gather_laws)
