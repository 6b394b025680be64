-- `merge_words::rows::fault` meets its contract: each way out is a law.
use Rattle.merge_words.proofs.LinearizeLaws.{fault_laws}
use borrow.Author.Rules.{rules}
use Rattle.merge_words.proofs.rows.fault.Goals as goal

pub returns-then-g-gt-EDGES : goal.returns-then-g-gt-EDGES
returns-then-g-gt-EDGES c = search (rules, fault_laws)

pub returns-then-seen : goal.returns-then-seen
returns-then-seen c = search (rules, fault_laws)

pub returns-then-seen-gt-NODES : goal.returns-then-seen-gt-NODES
returns-then-seen-gt-NODES c = search (rules, fault_laws)

pub returns : goal.returns
returns c = search (rules, fault_laws)
