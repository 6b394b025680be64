-- What is done and what is left make up the whole.
use Rattle.merge_words.proofs.HeadLaws.{pointers_laws}
use Rattle.merge_words.specs.Head.{pointers_from}
use borrow.Author.Rules.{rules}
use Rattle.merge_words.proofs.head.pointers.Goals as goal

pub loop-place-init : goal.loop-place-init
loop-place-init c = search (rules, pointers_laws)

pub loop-place-preserved : goal.loop-place-preserved
loop-place-preserved c = search (rules, pointers_laws)

pub returns : goal.returns
unfolding pointers_from
returns c = search (rules, pointers_laws)
