-- `table_predicate::scan::names_outside` meets its contract.
use mathlib.Core.Path.{◌∙◌}
use lib.ListN.{take, drop}
use Rattle.std.proofs.Common.{rules, tests}
use Rattle.std.proofs.lemmas.Iterator.{YieldsList-from_slice}
use Rattle.std.proofs.lemmas.Iterator.Search.{any_from_yields_List}
use Rattle.model.specs.Predicate.{named, is_outside}
use Rattle.model.specs.Table.{word_of}
use Rattle.table_predicate.proofs.ScanLaws.{some_outside}
use Rattle.table_predicate.proofs.scan.names_outside.Goals as goal

pub returns : goal.returns
returns c =
    let ws = take c.args.count (drop c.args.at c.args.words.now) in
    any_from_yields_List (λ w. is_outside c.args.variables (named (word_of w))) _ _ _ c.any.ensures.ran (YieldsList-from_slice ws (cc)) (λ x b q k. search (rules, tests)) ∙ some_outside _ _
