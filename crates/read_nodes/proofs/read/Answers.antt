-- `read` meets its contract: each way out is a law of NodesLaws.
use mathlib.Core.Path.{sym}
use lib.Seq.{length-take-le}
use Rattle.read_nodes.proofs.NodesLaws.{read_laws, read_within}
use Rattle.read_predicate.proofs.ScratchLaws.{scratch_laws}
use borrow.Author.Rules.{rules}
use Rattle.read_nodes.proofs.read.Goals as goal

pub returns-then-not-numbers_sound : goal.returns-then-not-numbers_sound
returns-then-not-numbers_sound c = search (rules, read_laws, scratch_laws)

pub returns-in_err-n : goal.returns-in_err-n
returns-in_err-n c = search (rules, read_laws, scratch_laws, c.in_err-n.was)

pub slice_bounds-judged-end : goal.slice_bounds-judged-end
slice_bounds-judged-end c = read_within _ _ _ _ (c.in_ok-n.ensures {u = tt})

pub slice_bounds-judged-end-2 : goal.slice_bounds-judged-end-2
slice_bounds-judged-end-2 c = sym (length-take-le _ _ (read_within _ _ _ _ (c.in_ok-n.ensures {u = tt})))

pub returns : goal.returns
returns c = search (rules, read_laws, scratch_laws, c.in_ok-n.was)
