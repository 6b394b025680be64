-- `predicate` comes past two expressions, or the walk ends in one of them.
use borrow.Author.Rules.{rules}
use Rattle.table_predicate.proofs.Steps.{pair_p, pair_ended, pair_half}
use Rattle.table_predicate.proofs.+expression_joined_operands_predicate.Goals as goal

pub predicate-returns-in_err-expression-in-Eq : goal.predicate-returns-in_err-expression-in-Eq
predicate-returns-in_err-expression-in-Eq t c = search (rules, pair_ended, c.in_ok-node.was, c.in_err-expression-in-Eq.was)

pub predicate-returns-in_err-expression-in-Eq-2 : goal.predicate-returns-in_err-expression-in-Eq-2
predicate-returns-in_err-expression-in-Eq-2 t c = search (rules, pair_half, c.in_ok-node.was, c.in_ok-expression-in-Eq.was, c.in_err-expression-in-Eq-2.was)

pub predicate-returns-in_ok-expression-in-Eq-2 : goal.predicate-returns-in_ok-expression-in-Eq-2
predicate-returns-in_ok-expression-in-Eq-2 t c = search (rules, pair_p, c.in_ok-node.was, c.in_ok-expression-in-Eq.was, c.in_ok-expression-in-Eq-2.was)
