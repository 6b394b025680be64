-- `filled` meets its contract: the definition goes on with the parts that are left and the numbers so far.
use mathlib.Core.Path.{◌≡◌}
use lib.ListN.{length, drop}
use Rattle.format.specs.Bytes.{parts, comma}
use Rattle.read_list.specs.Items.{items_of, items_from}
use Rattle.read_list.proofs.filled.Given as goal

abbrev pub invariant-loop-item : goal.invariant-loop-item
invariant-loop-item l = items_of l.asked (parts comma l.part) ≡ items_from l.asked l.seen (drop (length l.yielded) (parts comma l.part))
