-- `sync` meets its contract.
use Rattle.read_composition_line.proofs.SyncLaws.{sync_laws}
use Rattle.model.proofs.Tests.{not-true, not-false}
use borrow.Author.Rules.{rules}
use Rattle.read_composition_line.proofs.set.sync.Goals as goal

pub returns-then-misformed : goal.returns-then-misformed
returns-then-misformed c = search (rules, sync_laws)

pub returns-then-not-list : goal.returns-then-not-list
returns-then-not-list c = search (rules, sync_laws, not-true, not-false)

pub returns-then-not-list-2 : goal.returns-then-not-list-2
returns-then-not-list-2 c = search (rules, sync_laws, not-true, not-false)

pub returns : goal.returns
returns c = search (rules, sync_laws, not-false)
