-- `tree` meets its contract.
use borrow.Author.Rules.{rules}
use Rattle.std.proofs.lemmas.Result.{err_from_is_err_and}
use Rattle.model.proofs.Tests.{not-true, not-false}
use Rattle.read_composition_line.proofs.CompositionLaws.{tree_laws, formed_read, formed_after}
use Rattle.read_composition_line.proofs.tree.tree.Goals as goal

pub returns-in_err-c : goal.returns-in_err-c
returns-in_err-c c =
    let p = err_from_is_err_and c.from_residual.result c.from_residual.ensures.1 in (
      rw (p.1, p.2) (formed_read _ _ c.args.words.now _ _ _ c.read.ensures _ c.in_err-c.ensures.value),
      formed_after _ _ _ _ _ _ c.read.ensures _ c.in_err-c.ensures.value,
    )

pub returns-then-not-c : goal.returns-then-not-c
returns-then-not-c c = search (rules, tree_laws, not-true, c.in_ok-c.ensures.value)

pub returns-then-c-gt-NODES : goal.returns-then-c-gt-NODES
returns-then-c-gt-NODES c = search (rules, tree_laws, not-false, c.in_ok-c.ensures.value)

pub returns : goal.returns
returns c = search (rules, tree_laws, not-false, c.in_ok-c.ensures.value)
