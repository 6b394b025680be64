-- `merge_takers::gathering::places_at` meets its contract: the places so far, and those to come.
use Rattle.merge_takers.proofs.GatheringLaws.{reading_laws}
use borrow.Author.Rules.{rules}
use Rattle.merge_takers.proofs.gathering.places_at.Goals as goal

pub loop-held-preserved : goal.loop-held-preserved
loop-held-preserved c = search (rules, reading_laws)

pub returns : goal.returns
returns c = search (rules, reading_laws)
