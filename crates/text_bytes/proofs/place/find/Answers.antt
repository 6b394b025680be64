use borrow.Author.Rules.{rules}
use native.Mathlib.Omega.{arith}
use lib.Dec.{eqb}
use Rattle.std.proofs.Common.{None, Some, tests}
use Rattle.std.proofs.lemmas.Iterator.{YieldsList-from_slice}
use Rattle.std.proofs.lemmas.Iterator.Search.{position_from_yields_List}
use Rattle.text_bytes.proofs.FindLaws.{find_past, find_here, find_none}
use Rattle.text_bytes.proofs.place.find.Goals as goal

pub returns-then-s-at : goal.returns-then-s-at
returns-then-s-at c = (search (rules, find_past), omega arith)

pub returns-in-Some : goal.returns-in-Some
returns-in-Some c =
    find_here _ _ _ c.if-s-at.false _
    (position_from_yields_List (λ b. eqb b c.args.byte) _ _ (Some c.in-Some.i) c.in-Some.ensures.ran (YieldsList-from_slice _ (cc)) (λ x b q k. search (rules, tests)))

pub returns-in-None : goal.returns-in-None
returns-in-None c =
    find_none _ _ _ c.if-s-at.false
    (position_from_yields_List (λ b. eqb b c.args.byte) _ _ None c.in-None.ensures.ran (YieldsList-from_slice _ (cc)) (λ x b q k. search (rules, tests)))
