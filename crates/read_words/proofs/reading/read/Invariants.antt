-- What stands in front of `out` and what is still to be read make up the codes.
use Rattle.std.proofs.Common.{length}
use Rattle.read_words.proofs.ReadLaws.{Reading}
use Rattle.read_words.proofs.reading.read.Given as goal

abbrev pub invariant-loop-token : goal.invariant-loop-token
invariant-loop-token l = Reading l.part l.initial.out l.due l.n (length l.yielded) l.out
