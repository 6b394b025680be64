-- `merge_predicates::clauses::at_automata` meets its contract: what is done and what is left make up the whole.
use Rattle.merge_predicates.proofs.ClauseLaws.{automata_laws}
use Rattle.merge_append.proofs.Fronts.{front_laws}
use Rattle.merge_predicates.specs.Clauses.{function_clauses}
use borrow.Author.Rules.{rules}
use Rattle.merge_predicates.proofs.clauses.at_automata.Goals as goal

pub loop-i-init : goal.loop-i-init
loop-i-init c = search (rules, automata_laws, front_laws)

pub loop-i-preserved : goal.loop-i-preserved
loop-i-preserved c = search (rules, automata_laws, front_laws)

pub returns : goal.returns
unfolding function_clauses
returns c = search (rules, automata_laws, front_laws)
