-- The search for taking edges and the mark: each way out of the code, and what they are on the words of a lawful model.
use Rattle.std.proofs.Common.{◌≡◌, ℕ, Bool, List, length, take, drop, replicate, ℤ, sym, ap, ◌∙◌, arith}
use Rattle.model.specs.Basic.{exists}
use Rattle.model.specs.Model.{Model, in_set}
use Rattle.model.specs.Moves.{moves}
use Rattle.model.specs.Judge as J
use Rattle.model.proofs.Tests.{or_none_left, or_none_right}
use Rattle.table_places.specs.declared.layout.Layout.{Layout}
use Rattle.table_places.specs.Outline.{nodes_place}
use Rattle.table_places.specs.Layout.{layout_of, automata_of, variables_of}
use Rattle.table_places.proofs.Standing.{tree_begins}
use Rattle.table_places.proofs.LayoutLaws.{all_variables, tree_line}
use Rattle.table_places.proofs.AgreeLaws.{own_agrees, leaves_agree}
use Rattle.table_places.proofs.Opened.{Sheet}
use Rattle.table_tree.specs.Nodes.{tree_words}
use Rattle.table_tree.specs.Members.{in_set_at}
use Rattle.table_tree.proofs.Inside.{in_set_of}
use Rattle.judge_search.specs.Found.{found_in}
use Rattle.judge_search.proofs.FoundLaws.{found_is}
use Rattle.judge_candidates.specs.Bits.{changed_bits, still_bits}
use Rattle.judge_candidates.specs.Walk.{masks_after, first_after}
use Rattle.judge_candidates.proofs.WalkLaws.{masks_long, first_long}
use Rattle.judge_candidates.proofs.MaskLaws.{changed_mask_lem, still_bit}
use Rattle.judge_candidates.proofs.OffersLaws.{gather_offers}
use Rattle.judge_rows.specs.declared.Phase.{Phase}
use Rattle.judge_rows.specs.declared.Phase.TheVariants.{Running}
use Rattle.judge_rows.specs.declared.State.{State}
use Rattle.judge_rows.specs.States.{state_of}
use Rattle.judge_call.specs.Taken.{taken_in, taken_at, mark_at}
use Rattle.judge_call.specs.Calls.{own_of}
use Rattle.judge_rows.proofs.Filled.{front_fits, front_whole}
use Rattle.judge_rows.proofs.StateLaws.{one_each, one_value, Pass, stands, shows_old, shows_new, in_front_lem}

-- `found`: the two lists keep their lengths
module _ (w : List ℕ) (x : Layout) (old new : List ℕ) (before after : List ℤ) (a : ℕ) where
  pub masks_size : (masks : List ℕ) → masks ≡ masks_after w before after x old new a (replicate 512 0) (replicate 17 0) → 512 ≡ length masks
  masks_size masks e = sym (ap length e ∙ masks_long w before after x old new a (replicate 512 0) (replicate 17 0))

  pub first_size : (first : List ℕ) → first ≡ first_after w before after x old new a (replicate 512 0) (replicate 17 0) → 17 ≡ length first
  first_size first e = sym (ap length e ∙ first_long w before after x old new a (replicate 512 0) (replicate 17 0))

pub found_in_lem : (w : List ℕ) (x : Layout) (own old new : List ℕ) (before after : List ℤ) (a : ℕ) (masks first : List ℕ) (still changed at : ℕ) (r : Bool)
    → masks ≡ masks_after w before after x old new a (replicate 512 0) (replicate 17 0)
    → first ≡ first_after w before after x old new a (replicate 512 0) (replicate 17 0)
    → still ≡ still_bits old new → changed ≡ changed_bits before after → at ≡ nodes_place w x.tree
    → r ≡ found_in w at own a masks first still changed → r ≡ taken_in w x own old new before after a
unfolding taken_in
found_in_lem w x own old new before after a masks first still changed at r e f h i j k = rw (k, j, e, f, h, i)

-- `taken`
pub taken_at_lem : (w : List ℕ) (x : Layout) (own : List ℕ) (a : ℕ) (s t : State) (n v : ℕ) (r : Bool) → n ≡ automata_of x → v ≡ variables_of x
    → r ≡ taken_in w x own (take n s.locations) (take n t.locations) (take v s.values) (take v t.values) a → r ≡ taken_at w x own a s t
unfolding taken_at
taken_at_lem w x own a s t n v r e f g = rw (g, e, f)

-- `mark`
pub mark_at_lem : (w : List ℕ) (x : Layout) (own : List ℕ) (a at : ℕ) (r : Bool) → at ≡ nodes_place w x.tree → r ≡ in_set_at w own a at → r ≡ mark_at w x own a
unfolding mark_at
mark_at_lem w x own a at r f g = rw (g, f)

pub ruleset taken_laws = (front_fits, front_whole, masks_size, first_size, found_in_lem, taken_at_lem, mark_at_lem)

-- On the words of a lawful model.
module _ (t : List ℕ) (m : Model) (sheet : Sheet t m) where
  nodes_of_tree : take (length (tree_words m.tree)) (drop (nodes_place t (layout_of t).tree) t) ≡ tree_words m.tree
  nodes_of_tree = tree_begins t sheet.rest m.tree (layout_of t).tree (tree_line m sheet.lawful t sheet.rest sheet.stands)

  -- the search finds taking edges exactly where some move of the composition fits the step
  pub taken_is : (q : Phase) (l : List ℕ) (v : List ℤ) (l' : List ℕ) (v' : List ℤ) (a : ℕ) → Pass m (stands q l v) (stands Running l' v')
      → taken_at t (layout_of t) (own_of t) a (state_of q l v) (state_of Running l' v') ≡ exists (J.fits m (stands q l v) (stands Running l' v')) (moves m a m.tree)
  unfolding taken_at taken_in state_of
  taken_is q l v l' v' a p =
      let u = stands q l v in
      let u' = stands Running l' v' in
      let ok = sheet.lawful in
      let old = shows_old m ok q Running l v l' v' p in
      let new = shows_new m ok q Running l v l' v' p in
      let n : length l ≡ length m.automata = one_each m u (or_none_left (J.row21 m u) (J.row21 m u') p.no_21) in
      let n' : length l' ≡ length m.automata = one_each m u' (or_none_right (J.row21 m u) (J.row21 m u') p.no_21) in
      let vn : length v ≡ length m.variables = one_value m u (or_none_left (J.row21 m u) (J.row21 m u') p.no_21) in
      let few = ok.few_automata in
      let masks = masks_after t v v' (layout_of t) l l' a (replicate 512 0) (replicate 17 0) in
      let first = first_after t v v' (layout_of t) l l' a (replicate 512 0) (replicate 17 0) in
      rw (in_front_lem t m sheet l n, in_front_lem t m sheet l' n', all_variables m ok t sheet.rest sheet.stands, old.values, new.values, changed_mask_lem m u u' vn ok.few_variables)
      (found_is m ok u a u' t (nodes_place t (layout_of t).tree) (own_of t) masks first (still_bits l l') nodes_of_tree
      (λ k h. own_agrees m ok t sheet.rest sheet.stands a k)
      (gather_offers t sheet.rest m ok sheet.stands u a u' old.inside new.inside (replicate 512 0) (replicate 17 0) (omega arith) (omega arith))
      (λ k h. still_bit u u' k (omega arith) (omega arith)))

  pub mark_is : (a : ℕ) → mark_at t (layout_of t) (own_of t) a ≡ in_set m a m.tree
  unfolding mark_at
  mark_is a =
      let ok = sheet.lawful in
      in_set_of t (own_of t) m a m.actions ok.few_actions m.tree (nodes_place t (layout_of t).tree) ok.tree.size nodes_of_tree ok.tree.lists
      (leaves_agree m ok t sheet.rest sheet.stands a m.tree)
