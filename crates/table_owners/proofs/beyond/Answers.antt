-- `table_owners::beyond` meets its contract: the numbers that are left give the rest of the answer.
use Rattle.table_owners.proofs.CodeLaws.{going, search_laws}
use Rattle.table_owners.specs.Owners.{beyond_in}
use borrow.Author.Rules.{rules}
use Rattle.table_owners.proofs.beyond.Goals as goal

pub loop-k-init : goal.loop-k-init
unfolding beyond_in
loop-k-init c = going _ _

pub returns-then-beyond_at : goal.returns-then-beyond_at
returns-then-beyond_at c = search (rules, search_laws)

pub loop-k-preserved : goal.loop-k-preserved
loop-k-preserved c = search (rules, search_laws)

pub returns : goal.returns
returns c = search (rules, search_laws)
