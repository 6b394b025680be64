-- `merge_predicates::functions::functions_of` meets its contract: what is gathered and what is left make up the whole.
use Rattle.merge_predicates.proofs.FunctionLaws.{gathering_laws}
use Rattle.merge_append.proofs.Fronts.{front_laws}
use borrow.Author.Rules.{rules}
use Rattle.merge_predicates.proofs.functions.functions_of.Goals as goal

pub loop-i-preserved : goal.loop-i-preserved
loop-i-preserved c = search (rules, gathering_laws, front_laws)

pub returns : goal.returns
returns c = search (rules, gathering_laws, front_laws)
