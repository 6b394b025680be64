-- What the search is given as bits: an edge's mask, the variables that change, the automata that keep their location.
use mathlib.Core.Path.{◌≡◌, sym, ap, ◌∙◌}
use mathlib.Core.Bool.{true}
use mathlib.Core.List.{map}
use Prim.Native.Nat.{ℕ, ◌≤◌, ◌<◌}
use lib.ListN.{length}
use Rattle.model.specs.Basic.{every}
use Rattle.model.specs.Bounds.{max_variables, max_automata}
use Rattle.model.specs.Predicate.{words}
use Rattle.model.specs.Model.{Model, Edge}
use Rattle.model.specs.Rules.{State}
use Rattle.model.specs.Limits.{in_range}
use Rattle.model.specs.Table.{code, bit}
use Rattle.judge_search.specs.Search.{unmoved}
use Rattle.table_writes.specs.Sets.{mask, all_variables, rest_of}
use Rattle.table_writes.proofs.MaskLaws.{bit_mask}
use Rattle.table_writes.proofs.WrittenLaws.{rest_pred}
use Rattle.judge_search.specs.Masks.{rest_mask, changed_mask}
use Rattle.judge_candidates.specs.Bits.{differs, changed_bits, agrees, still_bits}
use Rattle.table_places.proofs.CodeLaws.{at_most_all}

-- an edge's mask is what its update's words leave of all 48 variables
pub rest_mask_lem : (e : Edge) → every in_range (words e.update) ≡ true → rest_of all_variables (map code (words e.update)) ≡ rest_mask e
unfolding rest_mask
rest_mask_lem e h = rest_pred e.update h

-- `changed` and `still`
pub changed_mask_lem : (m : Model) (s t : State) → length s.values ≡ length m.variables → length m.variables ≤ max_variables
    → changed_bits s.values t.values ≡ changed_mask m s t
unfolding changed_bits changed_mask differs
changed_mask_lem m s t e h = ap (mask (differs s.values t.values)) (sym (at_most_all max_variables (length s.values) (rw e h)) ∙ e)

pub still_bit : (s t : State) (k : ℕ) → length s.locations ≤ max_automata → k < length s.locations
    → bit (still_bits s.locations t.locations) k ≡ unmoved s t k
unfolding still_bits agrees unmoved
still_bit s t k h l =
    rw (← at_most_all max_automata (length s.locations) h) (bit_mask (agrees s.locations t.locations) (length s.locations) k l)
