use Rattle.text_bytes.proofs.WriteLaws.{signed_laws}
use borrow.Author.Rules.{rules}
use Rattle.text_bytes.proofs.write.spell_signed.Goals as goal

pub returns-then-z-ge0 : goal.returns-then-z-ge0
returns-then-z-ge0 c = search (rules, signed_laws)

pub returns : goal.returns
returns c = search (rules, signed_laws)
