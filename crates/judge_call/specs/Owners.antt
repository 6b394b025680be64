-- Whether each variable that has an owner keeps its value, over the words of a table, a layout, and states as the code
-- holds them. On a model's table and its layout it is `owned_keep` of the definitions: the law owned_keep_is.
use Rattle.std.specs.Prelude.{ℕ, Bool, not, ◌||◌, List, ℤ, ◌==◌}
use Rattle.table_places.specs.declared.layout.Layout.{Layout}
use Rattle.table_places.specs.Outline.{range_at, owner_at}
use Rattle.table_places.specs.Layout.{variables_of}
use Rattle.judge_candidates.specs.Bits.{differs}
use Rattle.judge_rows.specs.declared.State.{State}
use Rattle.judge_rows.specs.Each.{each_from}

module _ (words : List ℕ) where
  unfoldable pub keeps_at : (before after : List ℤ) (k : ℕ) → Bool
  keeps_at before after k = owner_at words (range_at words k) == 0 || not (differs before after k)

  unfoldable pub owned_keep_at : Layout → (s t : State) → Bool
  owned_keep_at x s t = each_from (keeps_at s.values t.values) 0 (variables_of x)
