-- `merge_predicates::clauses::merged` meets its contract: its words, part by part.
use Rattle.merge_predicates.proofs.ClauseLaws.{merged_is}
use borrow.Author.Rules.{rules}
use Rattle.merge_predicates.proofs.clauses.merged.Goals as goal

pub returns : goal.returns
returns c = search (rules, merged_is)
