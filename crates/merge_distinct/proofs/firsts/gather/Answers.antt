-- `merge_distinct::firsts::gather` meets its contract: what is listed and what is to come make up the whole list.
use Rattle.merge_distinct.proofs.FirstsLaws.{gather_laws, gather_old, gather_new}
use mathlib.Core.Path.{refl, ap}
use mathlib.Core.Bool.{not}
use borrow.Author.Rules.{rules}
use Rattle.merge_distinct.proofs.firsts.gather.Goals as goal
use Rattle.merge_distinct.proofs.firsts.gather.Goals.{then-not-is_repeat, else-not-is_repeat}

pub loop-init : goal.loop-init
loop-init c = search (rules, gather_laws)

pub loop-preserved : goal.loop-preserved
loop-preserved c =
    elim c.if-not-is_repeat.branch [
      | then-not-is_repeat x ↦ gather_new _ _ _ _ _ _ _ _ c.loop.invariant c.loop-test.true _ _ _ _ _
          c.hash-hash.ensures.value c.hash-hash.ensures.upper_bound refl
          c.is_repeat.ensures c.update_at.ensures c.after_predicate-place.ensures
          (ap not x.if-not-is_repeat.true) _ _ x.firsts-is x.n-is
      | else-not-is_repeat x ↦ gather_old _ _ _ _ _ _ _ _ c.loop.invariant c.loop-test.true _ _ _ _ _
          c.hash-hash.ensures.value c.hash-hash.ensures.upper_bound refl
          c.is_repeat.ensures c.update_at.ensures c.after_predicate-place.ensures
          (ap not x.if-not-is_repeat.false) _ _ x.firsts-is x.n-is
    ]

pub returns : goal.returns
returns c = search (rules, gather_laws)
