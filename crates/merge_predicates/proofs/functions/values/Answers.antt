-- `merge_predicates::functions::values` meets its contract: what is noted and what is left make up the whole.
use Rattle.merge_predicates.proofs.FunctionLaws.{function_laws}
use borrow.Author.Rules.{rules}
use Rattle.merge_predicates.proofs.functions.values.Goals as goal

pub loop-next-preserved : goal.loop-next-preserved
loop-next-preserved c = search (rules, function_laws)

pub returns-clause-places_after : goal.returns-clause-places_after
returns-clause-places_after c = search (rules, function_laws)
