-- The last digits stand from the place i on, and those of `rest` are still to come.
use Rattle.text_bytes.proofs.WriteLaws.{spell_laws}
use borrow.Author.Rules.{rules}
use Rattle.text_bytes.proofs.write.spell.Goals as goal

pub loop-rest-init : goal.loop-rest-init
loop-rest-init c = search (rules, spell_laws)

pub loop-rest-preserved : goal.loop-rest-preserved
loop-rest-preserved c = search (rules, spell_laws)

pub returns : goal.returns
returns c = search (rules, spell_laws)
