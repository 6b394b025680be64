-- `table_predicate::scan::ranged` meets its contract.
use mathlib.Core.Path.{◌∙◌}
use lib.ListN.{take, drop}
use Rattle.std.proofs.Common.{rules, tests}
use Rattle.std.proofs.lemmas.Iterator.{YieldsList-from_slice}
use Rattle.std.proofs.lemmas.Iterator.Search.{all_from_yields_List}
use Rattle.table_predicate.specs.Scan.{is_coded}
use Rattle.table_predicate.proofs.ScanLaws.{all_coded}
use Rattle.table_predicate.proofs.scan.ranged.Goals as goal

pub returns : goal.returns
returns c =
    let ws = take c.args.count (drop c.args.at c.args.words.now) in
    all_from_yields_List is_coded _ _ _ c.all.ensures.ran (YieldsList-from_slice ws (cc)) (λ x b q k. search (rules, tests)) ∙ all_coded _
