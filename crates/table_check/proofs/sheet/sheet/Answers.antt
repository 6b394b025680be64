-- `table_check::sheet::sheet` meets its contract: from each turn on, the rounds that are left come to the same answer.
use mathlib.Core.Path.{◌≡◌}
use Prim.Native.Nat.{suc, ◌+◌, ◌-◌}
use native.Mathlib.Omega.{arith}
use Rattle.model.specs.Bounds.{table_words}
use borrow.Author.Rules.{rules}
use Rattle.table_check.proofs.SheetLaws.{sheet_laws}
use Rattle.table_check.proofs.sheet.sheet.Goals as goal

pub returns-then-end : goal.returns-then-end
returns-then-end c =
    let more : table_words + 1 - c.loop.counter ≡ suc (table_words + 1 - (c.loop.counter + 1)) = omega arith in
    search (rules, sheet_laws)

pub returns-in_default : goal.returns-in_default
returns-in_default c =
    let more : table_words + 1 - c.loop.counter ≡ suc (table_words + 1 - (c.loop.counter + 1)) = omega arith in
    search (rules, sheet_laws)

pub loop-preserved : goal.loop-preserved
loop-preserved c =
    let more : table_words + 1 - c.loop.counter ≡ suc (table_words + 1 - (c.loop.counter + 1)) = omega arith in
    search (rules, sheet_laws)
