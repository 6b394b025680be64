use Rattle.read_predicate.proofs.FormedLaws.{step_laws, room_laws}
use borrow.Author.Rules.{rules}
use Rattle.read_predicate.proofs.formed.step.Goals as goal

pub returns-in_err-arity : goal.returns-in_err-arity
returns-in_err-arity c = search (rules, step_laws, c.in_err-arity.was)

pub returns-in_err-below : goal.returns-in_err-below
returns-in_err-below c = search (rules, step_laws, c.in_ok-arity.was, c.in_err-below.was)

pub taken-requires-2 : goal.taken-requires-2
taken-requires-2 c = search (rules, room_laws, c.in_ok-below.was)

pub returns-in_err-top : goal.returns-in_err-top
returns-in_err-top c = search (rules, step_laws, c.in_ok-arity.was, c.in_ok-below.was, c.in_err-top.was)

pub bounds-sorts-top : goal.bounds-sorts-top
bounds-sorts-top c = search (rules, room_laws, c.in_ok-below.was, c.in_ok-top.was)

pub overflow_add-result : goal.overflow_add-result
overflow_add-result c = search (rules, room_laws, c.in_ok-below.was, c.in_ok-top.was)

pub returns : goal.returns
returns c = search (rules, step_laws, c.in_ok-arity.was, c.in_ok-below.was, c.in_ok-top.was)
