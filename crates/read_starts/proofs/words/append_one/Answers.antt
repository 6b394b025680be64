use Rattle.read_starts.proofs.WordsLaws.{one_laws}
use borrow.Author.Rules.{rules}
use Rattle.read_starts.proofs.words.append_one.Goals as goal

pub returns-in-Ok : goal.returns-in-Ok
returns-in-Ok c = record { value = (search (rules, one_laws), search (rules, one_laws)); scratch = search (rules, one_laws) }

pub returns-in-Err : goal.returns-in-Err
returns-in-Err c = record { value = (search (rules, one_laws), search (rules, one_laws)); scratch = search (rules, one_laws) }
