-- `reader::read` meets its contract: each way out is a law of ReadLaws.
use borrow.Author.Rules.{rules}
use Rattle.std.proofs.lemmas.Result.{err_from_is_err_and}
use Rattle.reader.proofs.ReadLaws.{read_laws, answer_is, after_is, accepted_answer, accepted_after, refused_answer, refused_after}
use Rattle.reader.proofs.read.Goals as goal

pub returns-then-table-lt-WORDS : goal.returns-then-table-lt-WORDS
returns-then-table-lt-WORDS c = search (rules, read_laws)

pub returns-then-text-gt-BYTES : goal.returns-then-text-gt-BYTES
returns-then-text-gt-BYTES c = search (rules, read_laws)

pub returns-in_err-sheet : goal.returns-in_err-sheet
returns-in_err-sheet c =
    let p = err_from_is_err_and c.from_residual.result c.from_residual.ensures.1 in (
      rw (p.1, p.2) (answer_is _ _ _ (refused_answer _ _ c.if-table-lt-WORDS.false c.if-text-gt-BYTES.false _ c.in_err-sheet.ensures.0)),
      after_is _ _ _ (refused_after _ _ c.if-table-lt-WORDS.false c.if-text-gt-BYTES.false _ c.in_err-sheet.ensures.0),
    )

pub returns : goal.returns
returns c = (
  answer_is _ _ _ (accepted_answer _ _ c.if-table-lt-WORDS.false c.if-text-gt-BYTES.false c.in_ok-sheet.ensures.0),
  after_is _ _ _ (accepted_after _ _ c.if-table-lt-WORDS.false c.if-text-gt-BYTES.false _ c.in_ok-sheet.ensures.1 c.in_ok-sheet.ensures.0 _ c.store.ensures),
)
