-- `table_check::check` meets its contract: each way out is a law of TableLaws, and the law check_exact takes it to the rows.
use mathlib.Core.Path.{◌≡◌, ◌∙◌}
use Rattle.table_tree.proofs.Sound.{all_words}
use Rattle.std.proofs.Common.{Ok, Err}
use Rattle.model.specs.Row.{row}
use Rattle.table_check.specs.Check.{checked_table}
use Rattle.table_check.proofs.TableLaws.{cut_whole, check_laws}
use Rattle.table_check.proofs.Exact.{check_exact}
use borrow.Author.Rules.{rules}
use Rattle.table_check.proofs.check.Goals as goal

pub returns-then-table-lt-WORDS : goal.returns-then-table-lt-WORDS
returns-then-table-lt-WORDS c = let t = c.args.table.now in
    let e : Err (row 18) ≡ checked_table t = search (rules, check_laws) in
    e ∙ check_exact t (all_words t (λ k. (c.type_inv.table k).fits))

pub slice_bounds-words-end : goal.slice_bounds-words-end
slice_bounds-words-end c = search cut_whole

pub returns-then-sheet : goal.returns-then-sheet
returns-then-sheet c = let t = c.args.table.now in
    let e : Ok tt ≡ checked_table t = search (rules, check_laws) in
    e ∙ check_exact t (all_words t (λ i. (c.shared_slice_known-1.given i).fits))

pub returns-else-sheet : goal.returns-else-sheet
returns-else-sheet c = let t = c.args.table.now in
    let e : Err (row 19) ≡ checked_table t = search (rules, check_laws) in
    e ∙ check_exact t (all_words t (λ i. (c.shared_slice_known-1.given i).fits))
