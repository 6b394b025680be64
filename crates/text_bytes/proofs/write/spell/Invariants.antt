-- The last digits stand from the place i on, and those of `rest` are still to come.
use Rattle.text_bytes.proofs.WriteLaws.{Spelling}
use Rattle.text_bytes.proofs.write.spell.Given as goal

abbrev pub invariant-loop-rest : goal.invariant-loop-rest
invariant-loop-rest l = Spelling l.n l.i l.rest l.bytes

abbrev pub decreases-loop-rest : goal.decreases-loop-rest
decreases-loop-rest l = l.rest
