-- Sets of variables as numbers, bit K for variable K, and what the search is given of a step in this form.
use Rattle.std.specs.Prelude.{ℕ, suc, ◌-◌, ◌≤◌, ◌<◌, ◌≡◌, not, List, map, length, get_or, take, drop}
use Rattle.model.specs.Basic.{eq_z}
use Rattle.model.specs.Bounds.{max_variables}
use Rattle.model.specs.Predicate.{mentions}
use Rattle.model.specs.Model.{Model, Edge}
use Rattle.model.specs.Rules.{State, val}
use Rattle.table_writes.specs.Sets.{mask}
use Rattle.judge_search.specs.Search.{candidates}

-- the variables that an edge's update does not mention
unfoldable pub rest_mask : Edge → ℕ
rest_mask e = mask (λ k. not (mentions k e.update)) max_variables

-- the variables whose values differ
unfoldable pub changed_mask : Model → State → State → ℕ
changed_mask m s t = mask (λ k. not (eq_z (val s k) (val t k))) (length m.variables)

-- What the search is given, for a step from s to t under action a: automaton k's candidates are the masks from the
-- place `first` k up to the place `first` (k + 1).
pub record Offers (m : Model) (s : State) (a : ℕ) (t : State) (masks first : List ℕ) : Type 0 where
  pub rising : (k : ℕ) → k < length m.automata → get_or first k 0 ≤ get_or first (suc k) 0
  pub inside : get_or first (length m.automata) 0 ≤ length masks
  pub offered : (k : ℕ) → k < length m.automata
      → take (get_or first (suc k) 0 - get_or first k 0) (drop (get_or first k 0) masks)
      ≡ map rest_mask (candidates m s a t k)
