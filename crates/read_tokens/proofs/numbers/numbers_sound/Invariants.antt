-- What the tokens that are left come to is what all come to.
use Rattle.std.proofs.Common.{length}
use Rattle.read_tokens.proofs.NumbersLaws.{Goes}
use Rattle.read_tokens.proofs.numbers.numbers_sound.Given as goal

abbrev pub invariant-loop-token : goal.invariant-loop-token
invariant-loop-token l = Goes l.part l.kind (length l.yielded)
