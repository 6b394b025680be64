-- What is put from `end` on, for the P's from `from` on, completes the words of all. The measure is what is left.
use Rattle.read_starts.proofs.WordsLaws.{append_laws}
use borrow.Author.Rules.{rules}
use Rattle.read_starts.proofs.words.append.Goals as goal

pub loop-start-init : goal.loop-start-init
loop-start-init c = search (rules, append_laws)

pub loop-start-smaller : goal.loop-start-smaller
loop-start-smaller c = search (rules, append_laws)

pub loop-start-preserved : goal.loop-start-preserved
loop-start-preserved c = search (rules, append_laws)

pub returns : goal.returns
returns c = search (rules, append_laws)
