-- What is done and what is left make up the whole.
use Prim.Native.Nat.{◌-◌}
use Rattle.merge_append.proofs.AppendLaws.{Underway}
use Rattle.merge_words.specs.Head.{pointers_from}
use Rattle.merge_words.proofs.head.pointers.Given as goal

abbrev pub invariant-loop-place : goal.invariant-loop-place
invariant-loop-place l =
    Underway (pointers_from l.t l.fn.x.sets 0 l.count) l.initial.out
    (pointers_from l.t l.fn.x.sets l.place-index (l.count - l.place-index)) l.out
