use borrow.Author.Rules.{rules}
use Rattle.text_bytes.proofs.WriteLaws.{copy_past, copy_full, copy_in}
use Rattle.text_bytes.proofs.write.copy.Goals as goal

pub returns-then-out-at : goal.returns-then-out-at
returns-then-out-at c = search (rules, copy_past)

pub returns-then-out-at-2 : goal.returns-then-out-at-2
returns-then-out-at-2 c = search (rules, copy_full)

pub returns : goal.returns
returns c = search (rules, copy_in)
