-- What the check does not find alone: the way out of `seek` where an automaton rests, and that one taker more fits.
use borrow.Author.Rules.{rules}
use Rattle.judge_search.proofs.FoundSteps.{leaf_rests, one_fits}
use Rattle.judge_search.proofs.duties.Search.+parted_seek_taken.Goals as goal

pub seek-returns-then-still : goal.seek-returns-then-still
seek-returns-then-still t c = search (rules, leaf_rests)

pub taken-overflow_add-takers : goal.taken-overflow_add-takers
taken-overflow_add-takers t c = search (rules, one_fits)
