-- Worked examples: `par a0 a1`, where automaton 0 has two edges under action 1 and automaton 1 three.
use mathlib.Core.Path.{◌≡◌, refl}
use mathlib.Core.Bool.{true}
use mathlib.Core.List.{List, [], ◌∷◌}
use Prim.Native.Nat.{ℕ}
use lib.ListN.{take, replicate}
use Rattle.model.specs.Moves.{sides_count}
use Rattle.model.specs.Table.{bit}
use Rattle.table_tree.specs.Nodes.{node_in, node_at, after, owing, skip_from}
use Rattle.merge_moves.specs.Capping.{capped, cell_of, inside_of}
use Rattle.merge_moves.specs.Plan.{planned, par_plan, leaf_plan, plan_by, plan_step, plan_within, plan_at, stored, fill_by, fill_step, fill_within, fill_at}
use Rattle.merge_moves.specs.Pick.{divided_by, divided, named, pick_sides, cell_at, pick_by, pick_step, pick_within, picked_at, pick_at}

abbrev words : List ℕ
words = 0 ∷ 2 ∷ 3 ∷ []

-- the picked edges of the two in move k, by their own sets as words
abbrev move : (sets : List ℕ) (k : ℕ) → List ℕ
move sets k = take 2 (pick_at words (fill_at words sets (2 ∷ 3 ∷ []) 1 0 3 0 (replicate 3 0)) 0 3 0 k (replicate 2 0))

-- in both sets there are six pairs
shared_plan : plan_at words (2 ∷ 2 ∷ []) (2 ∷ 3 ∷ []) 1 3 0 ≡ planned true 6 3 0
unfolding plan_at plan_within plan_step plan_by par_plan leaf_plan node_at node_in capped sides_count bit
shared_plan = refl

-- of those, the fifth has the second edge of each; in the right's set only, its second alone; in neither, after the left's two moves the
-- right's first
picked_moves : move (2 ∷ 2 ∷ []) 4 ∷ move (0 ∷ 2 ∷ []) 1 ∷ move (0 ∷ 0 ∷ []) 1 ∷ move (0 ∷ 0 ∷ []) 2 ∷ [] ≡ (2 ∷ 2 ∷ []) ∷ (0 ∷ 2 ∷ []) ∷ (2 ∷ 0 ∷ []) ∷ (0 ∷ 1 ∷ []) ∷ []
unfolding plan_at plan_within plan_step plan_by par_plan leaf_plan stored fill_by fill_step fill_within fill_at node_at node_in after owing skip_from capped sides_count bit cell_of inside_of divided_by divided named pick_sides cell_at pick_by pick_step pick_within picked_at pick_at
picked_moves = refl
