-- What is done and what is left make up the whole.
use Prim.Native.Nat.{◌-◌}
use Rattle.merge_append.proofs.AppendLaws.{Underway}
use Rattle.merge_words.specs.Head.{variables_from}
use Rattle.merge_words.proofs.head.variables.Given as goal

abbrev pub invariant-loop-k : goal.invariant-loop-k
invariant-loop-k l =
    Underway (variables_from l.t 0 l.count) l.initial.out (variables_from l.t l.k (l.count - l.k)) l.out
