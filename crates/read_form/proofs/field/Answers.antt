-- `field` meets its contract: the parts are those that `split` gives.
use mathlib.Core.Path.{refl}
use borrow.Author.Rules.{rules}
use lib.Dec.{eqb}
use Rattle.std.proofs.Common.{tests}
use Rattle.std.proofs.lemmas.Iterator.Splits.{YieldsList-from_slice_split}
use Rattle.std.proofs.lemmas.Iterator.Consumers.{nth_from_yields_List}
use Rattle.read_form.proofs.FieldLaws.{field_nth}
use Rattle.read_form.proofs.field.Goals as goal

pub returns : goal.returns
returns c =
    let s = c.split.ensures in
    field_nth c.args.value.now c.args.number c.nth.result _ _ refl c.unwrap_or.ensures
    (nth_from_yields_List c.nth.result _ _ c.nth.ensures.ran
    (YieldsList-from_slice_split _ (λ b. eqb b 44) c.args.value.now s.rest s.done s.closure (λ x b q k. search (rules, tests))))
