-- src/words.rt:25:9
use Rattle.read_starts.proofs.WordsLaws.{counted_laws}
use borrow.Author.Rules.{rules}
use Rattle.read_starts.proofs.words.append_counted.Goals as goal

pub returns-then-n-gt-NODES : goal.returns-then-n-gt-NODES
returns-then-n-gt-NODES c = (search (rules, counted_laws), search (rules, counted_laws))

pub returns : goal.returns
returns c = (search (rules, counted_laws), search (rules, counted_laws))
