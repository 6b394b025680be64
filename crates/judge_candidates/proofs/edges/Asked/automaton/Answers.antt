-- `judge_candidates::edges::Asked::automaton` meets its contract.
use Rattle.judge_candidates.proofs.WalkLaws.{automaton_is}
use borrow.Author.Rules.{rules}
use Rattle.judge_candidates.proofs.edges.Asked.automaton.Goals as goal

pub returns : goal.returns
returns c = search (rules, automaton_is)
