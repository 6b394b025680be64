-- `merge_distinct::copying::edges` meets its contract: what is copied and what is left make up the whole.
use lib.ListN.{drop}
use Rattle.merge_append.proofs.AppendLaws.{Underway}
use Rattle.merge_distinct.specs.Distinct.{edge_words}
use Rattle.merge_distinct.proofs.copying.edges.Given as goal

abbrev pub invariant-loop-first : goal.invariant-loop-first
invariant-loop-first l =
    Underway (edge_words l.t l.first-items) l.initial.out
    (edge_words l.t (drop l.first-index l.first-items)) l.out
