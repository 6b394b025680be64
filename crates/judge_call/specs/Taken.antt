-- Whether some automata can take the action, by the search over what each could take; and the mark. On a model's table,
-- its layout and the automata's own sets these are the definitions': the laws taken_is and mark_is.
use Rattle.std.specs.Prelude.{ℕ, Bool, List, take, replicate, ℤ}
use Rattle.table_places.specs.declared.layout.Layout.{Layout}
use Rattle.table_places.specs.Outline.{nodes_place}
use Rattle.table_places.specs.Layout.{automata_of, variables_of}
use Rattle.table_tree.specs.Members.{in_set_at}
use Rattle.judge_search.specs.Found.{found_in}
use Rattle.judge_candidates.specs.Bits.{changed_bits, still_bits}
use Rattle.judge_candidates.specs.Walk.{masks_after, first_after}
use Rattle.judge_rows.specs.declared.State.{State}

module _ (words : List ℕ) (x : Layout) (own : List ℕ) where
  -- the search, given the edges that each automaton could take; what was in the two lists before plays no part
  unfoldable pub taken_in : (old new : List ℕ) (before after : List ℤ) (action : ℕ) → Bool
  taken_in old new before after action =
      found_in words (nodes_place words x.tree) own action
      (masks_after words before after x old new action (replicate 512 0) (replicate 17 0))
      (first_after words before after x old new action (replicate 512 0) (replicate 17 0))
      (still_bits old new) (changed_bits before after)

  unfoldable pub taken_at : (action : ℕ) (s t : State) → Bool
  taken_at action s t =
      taken_in (take (automata_of x) s.locations) (take (automata_of x) t.locations)
      (take (variables_of x) s.values) (take (variables_of x) t.values) action

  unfoldable pub mark_at : (action : ℕ) → Bool
  mark_at action = in_set_at words own action (nodes_place words x.tree)
