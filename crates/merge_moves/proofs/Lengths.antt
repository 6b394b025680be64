-- The cells and the picked edges stay as many as they were, whatever the words are.
use mathlib.Core.Path.{◌≡◌, refl, ◌∙◌}
use mathlib.Core.Bool.{Bool, true, false, ◌&&◌}
use mathlib.Core.List.{List}
use Prim.Native.Nat.{ℕ, zero, suc, ◌+◌, ◌-◌}
use lib.ListN.{length, set, length-set}
use lib.Dec.{ltb}
use Rattle.table_tree.specs.declared.nodes.Found.{Found}
use Rattle.table_tree.specs.declared.nodes.Found.TheVariants.{Par, Syn, Leaf, Stray}
use Rattle.table_tree.specs.Nodes.{node_at}
use Rattle.merge_moves.specs.declared.planning.Planned.{Planned}
use Rattle.merge_moves.specs.declared.picking.Taking.{Taking}
use Rattle.merge_moves.specs.declared.picking.Taking.TheVariants.{Both, Left, Right, Nobody}
use Rattle.merge_moves.specs.Plan.{plan_at, stored, fill_by, fill_step, fill_within, fill_at}
use Rattle.merge_moves.specs.Pick.{named, Picker, pick_sides, end_of, pick_by, pick_step, pick_within, picked_at, pick_at}

-- where one place is set, or none
set_or_not : (b : Bool) (l : List ℕ) (i v : ℕ) → length {A = ℕ} (elim b as (λ c. List ℕ) [ true ↦ set l i v | false ↦ l ]) ≡ length l
set_or_not true l i v = length-set l i v
set_or_not false l i v = refl

module _ (P : (left at : ℕ) → Planned) (F : (left at : ℕ) → List ℕ → List ℕ) (h : (left at : ℕ) (es : List ℕ) → length (F left at es) ≡ length es) where
  fill_by_length : (left : ℕ) (f : Found) (cells : List ℕ) → length (fill_by P F left f cells) ≡ length cells
  unfolding fill_by
  fill_by_length left (Par next) cells = let c = P left next in h c.left c.next (F left next cells) ∙ h left next cells
  fill_by_length left (Syn a b next) cells = h left next cells
  fill_by_length left (Leaf k next) cells = refl
  fill_by_length left Stray cells = refl

module _ (words sets under : List ℕ) (action root : ℕ) where
  fill_within_length : (deep left at : ℕ) (cells : List ℕ) → length (fill_within words sets under action root deep left at cells) ≡ length cells
  unfolding fill_within fill_step stored
  fill_within_length zero left at cells = refl
  fill_within_length (suc d) zero at cells = refl
  fill_within_length (suc d) (suc n) at cells =
      set_or_not (ltb (at - root) 192) _ (at - root) _
      ∙ fill_by_length (plan_at words sets under action) (fill_within words sets under action root d) (fill_within_length d) n (node_at words at) cells

  pub fill_length : (left at : ℕ) (cells : List ℕ) → length (fill_at words sets under action root left at cells) ≡ length cells
  unfolding fill_at
  fill_length left at cells = fill_within_length left left at cells

module _ (P : Picker) (h : (left at k : ℕ) (es : List ℕ) → length (P left at k es).edges ≡ length es) where
  sides_length : (first second : ℕ) (t : Taking) (left : ℕ) (edges : List ℕ) → length (pick_sides P first second t left edges).edges ≡ length edges
  unfolding pick_sides
  sides_length first second (Both i j) left edges = let p = P left first i edges in h p.left second j p.edges ∙ h left first i edges
  sides_length first second (Left i) left edges = h left first i edges
  sides_length first second (Right j) left edges = h left second j edges
  sides_length first second Nobody left edges = refl

  pick_by_length : (words cells : List ℕ) (root k : ℕ) (f : Found) (left : ℕ) (edges : List ℕ) → length (pick_by P words cells root k f left edges).edges ≡ length edges
  unfolding pick_by named
  pick_by_length words cells root k (Par next) left edges = sides_length next (end_of words next) _ left edges
  pick_by_length words cells root k (Syn a b next) left edges = h left next k edges
  pick_by_length words cells root k (Leaf i next) left edges = set_or_not (ltb i 16 && ltb k 512) edges i (k + 1)
  pick_by_length words cells root k Stray left edges = refl

module _ (words cells : List ℕ) (root : ℕ) where
  pick_within_length : (deep left at k : ℕ) (edges : List ℕ) → length (pick_within words cells root deep left at k edges).edges ≡ length edges
  unfolding pick_within pick_step
  pick_within_length zero left at k edges = refl
  pick_within_length (suc d) zero at k edges = refl
  pick_within_length (suc d) (suc n) at k edges =
      pick_by_length (pick_within words cells root d) (pick_within_length d) words cells root k (node_at words at) n edges

  pub pick_length : (left at k : ℕ) (edges : List ℕ) → length (pick_at words cells root left at k edges) ≡ length edges
  unfolding pick_at picked_at
  pick_length left at k edges = pick_within_length left left at k edges
