-- `merge_distinct::copying::automata` meets its contract: what is copied and what is left make up the whole.
use Prim.Native.Nat.{◌-◌}
use Rattle.merge_append.proofs.AppendLaws.{Underway}
use Rattle.merge_distinct.specs.Distinct.{automata_words}
use Rattle.merge_distinct.proofs.copying.automata.Given as goal

abbrev pub invariant-loop-i : goal.invariant-loop-i
invariant-loop-i l =
    Underway (automata_words l.t l.fn.x.sets l.fn.x.edges 0 l.count) l.initial.out
    (automata_words l.t l.fn.x.sets l.fn.x.edges l.i (l.count - l.i)) l.out
