-- `table_tree::checked::one_node` meets its contract: each way out is a law of CheckLaws.
use Rattle.table_tree.proofs.CheckLaws.{step_laws, unfilled_few}
use borrow.Author.Rules.{rules}
use Rattle.table_tree.proofs.checked.one_node.Goals as goal

pub returns-then-step-eq0 : goal.returns-then-step-eq0
returns-then-step-eq0 c = search (rules, step_laws)

pub returns-then-not-set_sound : goal.returns-then-not-set_sound
returns-then-not-set_sound c = search (rules, step_laws)

pub overflow_add-inis : goal.overflow_add-inis
overflow_add-inis c = let few = unfilled_few _ _ c.unfilled.ensures in
    search rules

pub returns-then-k-step : goal.returns-then-k-step
returns-then-k-step c = search (rules, step_laws)

pub returns-in-Par : goal.returns-in-Par
returns-in-Par c = search (rules, step_laws)

pub returns-else-not-set_sound : goal.returns-else-not-set_sound
returns-else-not-set_sound c = search (rules, step_laws)

pub returns-else-k-step : goal.returns-else-k-step
returns-else-k-step c = search (rules, step_laws)

pub returns-in-Stray : goal.returns-in-Stray
returns-in-Stray c = search (rules, step_laws)
