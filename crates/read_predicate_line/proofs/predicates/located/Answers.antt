-- `located` meets its contract: each way out is a law of PredicateLaws.
use borrow.Author.Rules.{rules}
use Rattle.std.proofs.lemmas.Result.{err_from_is_err_and}
use Rattle.read_predicate_line.proofs.PredicateLaws.{located_laws, located_row, located_row_kept}
use Rattle.read_predicate_line.proofs.predicates.located.Goals as goal

pub returns-in_err-n-clause-value : goal.returns-in_err-n-clause-value
returns-in_err-n-clause-value c =
    let p = err_from_is_err_and c.from_residual.result c.from_residual.ensures.1 in
    rw (p.1, p.2) (located_row _ _ _ _ _ _ _ c.in_err-n.ensures.value)

pub returns-in_err-n-clause-words_after : goal.returns-in_err-n-clause-words_after
returns-in_err-n-clause-words_after c = located_row_kept _ _ _ _ _ _ _ c.in_err-n.ensures.value

pub append_nodes-next-requires : goal.append_nodes-next-requires
append_nodes-next-requires c = search (rules, located_laws, c.in_ok-n.ensures.value)

pub returns-clause-value : goal.returns-clause-value
returns-clause-value c = search (rules, located_laws, c.in_ok-n.ensures.value)

pub returns-clause-words_after : goal.returns-clause-words_after
returns-clause-words_after c = search (rules, located_laws, c.in_ok-n.ensures.value)
