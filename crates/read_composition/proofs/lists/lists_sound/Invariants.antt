-- What is judged of the tokens that are left is what is judged of all.
use Rattle.std.proofs.Common.{length}
use Rattle.read_composition.proofs.ListsLaws.{Goes}
use Rattle.read_composition.proofs.lists.lists_sound.Given as goal

abbrev pub invariant-loop-token : goal.invariant-loop-token
invariant-loop-token l = Goes l.part l.actions l.due (length l.yielded)
