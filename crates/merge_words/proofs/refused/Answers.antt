-- `merge_words::refused` meets its contract.
use Rattle.merge_words.proofs.LinearizeLaws.{refused_is}
use borrow.Author.Rules.{rules}
use Rattle.merge_words.proofs.refused.Goals as goal

pub returns : goal.returns
returns c = search (rules, refused_is)
