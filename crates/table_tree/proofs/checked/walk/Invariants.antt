-- `table_tree::checked::walk` meets its contract: from each turn on, the definition goes on to the same answer. Each node owes at most one
-- subtree more, and is at most one leaf or `ini` more.
use mathlib.Core.Path.{◌≡◌}
use Prim.Native.Nat.{◌+◌, ◌-◌, ◌≤◌}
use Rattle.table_tree.specs.Checked.{check_from}
use Rattle.table_tree.proofs.checked.walk.Given as goal

abbrev pub invariant-loop : goal.invariant-loop
invariant-loop l = (l.step.owed ≤ l.counter + 1) × (l.step.leaves ≤ l.counter) × (l.step.inis ≤ l.counter) × (check_from l.words l.actions l.automata (l.count - l.counter) l.step.next l.step.owed l.step.leaves l.step.inis ≡ check_from l.words l.actions l.automata l.count l.at 1 0 0)
