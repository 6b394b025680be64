-- The members below k are written.
use mathlib.Core.Path.{◌≡◌}
use Rattle.format.specs.Spelling.{text_of_list}
use Rattle.write_words.specs.Growing.{Grew}
use Rattle.write_words.proofs.JoinLaws.{is_none}
use Rattle.write_words.proofs.NodeLaws.{members_below}
use Rattle.write_words.proofs.tree.members.Given as goal

abbrev pub invariant-loop-k : goal.invariant-loop-k
invariant-loop-k l =
    Grew (text_of_list (members_below l.both l.k)) l.initial.out l.out ×
    (l.first ≡ is_none (members_below l.both l.k))
