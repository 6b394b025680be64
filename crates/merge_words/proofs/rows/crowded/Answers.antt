-- `merge_words::rows::crowded` meets its contract.
use Rattle.merge_words.proofs.LinearizeLaws.{crowded_is}
use borrow.Author.Rules.{rules}
use Rattle.merge_words.proofs.rows.crowded.Goals as goal

pub returns : goal.returns
returns c = search (rules, crowded_is)
