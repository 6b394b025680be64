-- `table_owners::foreign` meets its contract: the numbers that are left give the rest of the answer.
use Rattle.table_owners.proofs.CodeLaws.{going, search_laws}
use Rattle.table_owners.specs.Owners.{foreign_in}
use borrow.Author.Rules.{rules}
use Rattle.table_owners.proofs.foreign.Goals as goal

pub loop-k-init : goal.loop-k-init
unfolding foreign_in
loop-k-init c = going _ _

pub returns-then-foreign_at : goal.returns-then-foreign_at
returns-then-foreign_at c = search (rules, search_laws)

pub loop-k-preserved : goal.loop-k-preserved
loop-k-preserved c = search (rules, search_laws)

pub returns : goal.returns
returns c = search (rules, search_laws)
