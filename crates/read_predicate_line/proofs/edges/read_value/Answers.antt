-- `read_value` meets its contract: each way out is a law of EdgeLaws.
use borrow.Author.Rules.{rules}
use Rattle.std.proofs.lemmas.Result.{err_from_is_err_and}
use Rattle.read_predicate_line.proofs.EdgeLaws.{value_laws, value_unsound, value_unsound_kept, value_row, value_row_kept}
use Rattle.read_predicate_line.proofs.edges.read_value.Goals as goal

pub returns-in_err-ends-clause-value : goal.returns-in_err-ends-clause-value
returns-in_err-ends-clause-value c =
    let p = err_from_is_err_and c.from_residual.result c.from_residual.ensures.1 in
    rw (p.1, p.2) (value_unsound _ _ _ _ _ _ _ c.read_ends.ensures _ c.in_err-ends.ensures.value)

pub returns-in_err-ends-clause-words_after : goal.returns-in_err-ends-clause-words_after
returns-in_err-ends-clause-words_after c =
    value_unsound_kept _ _ _ _ _ _ _ c.read_ends.ensures _ c.in_err-ends.ensures.value

pub returns-in_err-n-clause-value : goal.returns-in_err-n-clause-value
returns-in_err-n-clause-value c =
    let p = err_from_is_err_and c.from_residual-in_err-n.result c.from_residual-in_err-n.ensures.1 in
    rw (p.1, p.2)
    (value_row _ _ _ _ _ _ _ c.read_ends.ensures _ c.in_ok-ends.ensures.value _ c.field.ensures _ c.in_err-n.ensures.value)

pub returns-in_err-n-clause-words_after : goal.returns-in_err-n-clause-words_after
returns-in_err-n-clause-words_after c =
    value_row_kept _ _ _ _ _ _ _ c.read_ends.ensures _ c.in_ok-ends.ensures.value _ c.field.ensures _ c.in_err-n.ensures.value

pub returns-then-astray-clause-value : goal.returns-then-astray-clause-value
returns-then-astray-clause-value c =
    search (rules, value_laws, c.in_ok-ends.ensures.value, c.in_ok-n.ensures.value)

pub returns-then-astray-clause-words_after : goal.returns-then-astray-clause-words_after
returns-then-astray-clause-words_after c =
    search (rules, value_laws, c.in_ok-ends.ensures.value, c.in_ok-n.ensures.value)

pub append_edge-next-requires : goal.append_edge-next-requires
append_edge-next-requires c =
    search (rules, value_laws, c.in_ok-ends.ensures.value, c.in_ok-n.ensures.value)

pub returns-clause-value : goal.returns-clause-value
returns-clause-value c =
    search (rules, value_laws, c.in_ok-ends.ensures.value, c.in_ok-n.ensures.value)

pub returns-clause-words_after : goal.returns-clause-words_after
returns-clause-words_after c =
    search (rules, value_laws, c.in_ok-ends.ensures.value, c.in_ok-n.ensures.value)
