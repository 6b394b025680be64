-- `merge_words::merged` meets its contract.
use Rattle.merge_words.proofs.LinearizeLaws.{merged_is}
use borrow.Author.Rules.{rules}
use Rattle.merge_words.proofs.merged.Goals as goal

pub returns : goal.returns
returns c = search (rules, merged_is)
