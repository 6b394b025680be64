-- `merge_takers::taking::takers_of` meets its contract: the places so far, and those to come.
use Rattle.merge_takers.proofs.TakingLaws.{taking_laws}
use Rattle.merge_append.proofs.Fronts.{front_laws}
use borrow.Author.Rules.{rules}
use Rattle.merge_takers.proofs.taking.takers_of.Goals as goal

pub loop-i-preserved : goal.loop-i-preserved
loop-i-preserved c = search (rules, taking_laws, front_laws)

pub returns : goal.returns
returns c = search (rules, taking_laws, front_laws)
