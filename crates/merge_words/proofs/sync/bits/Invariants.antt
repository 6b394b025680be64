-- From each action on, the definition goes on to the same word.
use mathlib.Core.Path.{◌≡◌}
use Rattle.merge_words.specs.Sync.{is_shared, bits_from}
use Rattle.merge_words.proofs.sync.bits.Given as goal

abbrev pub invariant-loop-i : goal.invariant-loop-i
invariant-loop-i l =
    bits_from (is_shared l.t l.x l.own) l.from l.i l.word ≡ bits_from (is_shared l.t l.x l.own) l.from 32 0
