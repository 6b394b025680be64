-- The place of a walk by the difference, where the definition has the sum.
use Rattle.table_line.proofs.PredicateCode.{walked_on}
use Rattle.table_line.proofs.predicates.walked_to.Goals as goal

pub returns-then-not-walk : goal.returns-then-not-walk
returns-then-not-walk c = walked_on _ _ _ _ c.in-Ok.is c.if-not-walk.true _ c.checked_sub.ensures _ c.eq.ensures
