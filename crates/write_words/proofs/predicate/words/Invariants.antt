-- The first i words are written.
use lib.ListN.{take}
use Rattle.write_words.specs.Growing.{Grew}
use Rattle.write_words.specs.NodeText.{words_text}
use Rattle.write_words.proofs.predicate.words.Given as goal

abbrev pub invariant-loop-i : goal.invariant-loop-i
invariant-loop-i l = Grew (words_text (take l.i l.ws)) l.initial.out l.out
