-- `merge_predicates::functions::values` meets its contract: what is noted and what is left make up the whole.
use mathlib.Core.Path.{◌≡◌}
use lib.Seq.{sets}
use Prim.Native.Nat.{◌-◌}
use Rattle.merge_predicates.specs.Functions.{values_from}
use Rattle.merge_predicates.proofs.functions.values.Given as goal

abbrev pub invariant-loop-next : goal.invariant-loop-next
invariant-loop-next l =
    sets l.places l.next (values_from l.t l.inv (l.end - l.next) l.place)
    ≡ sets l.initial.places l.at (values_from l.t l.inv l.count l.first)
