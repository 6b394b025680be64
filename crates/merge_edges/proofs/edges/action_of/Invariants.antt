-- `merge_edges::edges::action_of` meets its contract: from each turn on, the definition goes on to the same answer.
use mathlib.Core.Path.{◌≡◌}
use lib.ListN.{drop}
use Rattle.merge_edges.specs.Edges.{action_at}
use Rattle.merge_edges.proofs.edges.action_of.Given as goal

abbrev pub invariant-loop-place : goal.invariant-loop-place
invariant-loop-place l = action_at l.t (drop l.place-index l.place-items) ≡ action_at l.t l.place-items
