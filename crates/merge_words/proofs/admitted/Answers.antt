-- `merge_words::admitted` meets its contract: each way out is a law.
use Rattle.merge_words.proofs.LinearizeLaws.{admitted_laws}
use borrow.Author.Rules.{rules}
use Rattle.merge_words.proofs.admitted.Goals as goal

pub returns-in-Ok : goal.returns-in-Ok
returns-in-Ok c = search (rules, admitted_laws)

pub returns-in-Err : goal.returns-in-Err
returns-in-Err c = search (rules, admitted_laws)
