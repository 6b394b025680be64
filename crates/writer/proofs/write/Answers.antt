-- `writer::write` meets its contract: each way out is a law of SheetText.
use Rattle.std.proofs.lemmas.Result.{err_from_is_err_and}
use Rattle.writer.proofs.SheetText.{write_laws}
use borrow.Author.Rules.{rules}
use Rattle.writer.proofs.write.Goals as goal

pub returns-in_err-check : goal.returns-in_err-check
returns-in_err-check c =
    let p = err_from_is_err_and c.from_residual.result c.from_residual.ensures.1 in
    rw (p.1, p.2) (search (rules, write_laws, c.in_err-check.was))

pub returns : goal.returns
returns c = search (rules, write_laws, c.in_ok-check.was)
