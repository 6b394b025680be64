-- From each action on, the definition goes on to the same word.
use Rattle.merge_words.proofs.SyncLaws.{bits_laws}
use borrow.Author.Rules.{rules}
use Rattle.merge_words.proofs.sync.bits.Goals as goal

pub loop-i-preserved : goal.loop-i-preserved
loop-i-preserved c = search (rules, bits_laws)

pub returns : goal.returns
returns c = search (rules, bits_laws)
