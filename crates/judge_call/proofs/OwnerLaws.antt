-- Each way out of the code of src/owners.rt; and on the words of a lawful model, what it tests of two states is `owned_keep` of the definitions.
use Rattle.std.proofs.Common.{◌≡◌, ℕ, suc, ◌<◌, Bool, not, ◌||◌, eqb, List, ◌++◌, length, get_or, ℤ, pos, refl, ap, ◌∙◌, arith, get_or-take}
use mathlib.Core.Option.{Option, none, some}
use Rattle.model.specs.Basic.{eq_z, lacks}
use Rattle.model.specs.Predicate.{range}
use Rattle.model.specs.Model.{Model, owner_of}
use Rattle.model.specs.Lawful.{Lawful}
use Rattle.model.specs.Table.{owner_word, sheet_words}
use Rattle.model.specs.Rules as R
use Rattle.model.specs.Judge.{owned_keep}
use Rattle.model.proofs.Tests.{or_same, not_eq, not-not}
use Rattle.table_places.specs.declared.layout.Layout.{Layout}
use Rattle.table_places.specs.Outline.{range_at, owner_at}
use Rattle.table_places.specs.Layout.{layout_of, variables_of}
use Rattle.table_places.proofs.OutlineLaws.{owner_there}
use Rattle.table_places.proofs.Standing.{range_stands}
use Rattle.table_places.proofs.LayoutLaws.{all_variables}
use Rattle.judge_candidates.specs.Bits.{differs}
use Rattle.judge_rows.specs.declared.State.{State}
use Rattle.judge_rows.specs.Each.{each_from}
use Rattle.judge_rows.proofs.WalkLaws.{each_walked}
use Rattle.judge_rows.proofs.StateLaws.{Shows}
use Rattle.judge_call.specs.Owners.{keeps_at, owned_keep_at}

-- `keeps`
pub keeps_is : (w : List ℕ) (before after : List ℤ) (k at o : ℕ) (d : Bool) → at ≡ range_at w k → o ≡ owner_at w at → d ≡ differs before after k
    → (eqb o 0 || not d) ≡ keeps_at w before after k
unfolding keeps_at
keeps_is w before after k at o d e f g = rw (g, f, e)

-- `owned_keep`
pub owned_walked : (w : List ℕ) (x : Layout) (s t : State) (n : ℕ) (r : Bool) → n ≡ variables_of x → r ≡ each_from (keeps_at w s.values t.values) 0 n
    → r ≡ owned_keep_at w x s t
unfolding owned_keep_at
owned_walked w x s t n r e f = f ∙ ap (each_from (keeps_at w s.values t.values) 0) e

-- only nobody's word is 0
nobody_zero : (o : Option ℕ) → eqb (owner_word o) 0 ≡ lacks o
unfolding owner_word lacks
nobody_zero none = refl
nobody_zero (some k) = not_eq (suc k) 0 (λ e. omega arith)

-- a variable's value, as the code holds it
value_shown : (m : Model) (s : State) (u : R.State) → Shows m s u → (k : ℕ) → k < length m.variables → get_or s.values k (pos 0) ≡ R.val u k
value_shown m s u shows k h = rw (← shows.values, get_or-take (length m.variables) s.values k (pos 0) h)

-- On the words of a lawful model.
module _ (m : Model) (lawful : Lawful m) (t rest : List ℕ) (e : t ≡ sheet_words m ++ rest) where
  owner_lacks : (k : ℕ) → k < length m.variables → eqb (owner_at t (range_at t k)) 0 ≡ lacks (owner_of m k)
  owner_lacks k h =
      let d = range (pos 0) (pos 0) in
      rw (owner_there t _ (get_or m.variables k d) (owner_of m k) (range_at t k) (range_stands t rest m k d h e)) (nobody_zero (owner_of m k))

  pub owned_keep_is : (s s' : State) (u u' : R.State) → Shows m s u → Shows m s' u' → owned_keep_at t (layout_of t) s s' ≡ owned_keep m u u'
  unfolding owned_keep_at owned_keep keeps_at differs
  owned_keep_is s s' u u' a b =
      ap (each_from (keeps_at t s.values s'.values) 0) (all_variables m lawful t rest e) ∙
      each_walked (keeps_at t s.values s'.values) (length m.variables) _ one
    where
      one : (k : ℕ) → k < length m.variables → keeps_at t s.values s'.values k ≡ (lacks (owner_of m k) || eq_z (R.val u k) (R.val u' k))
      one k h =
          or_same (owner_lacks k h)
          (not-not (eq_z (get_or s.values k (pos 0)) (get_or s'.values k (pos 0))) ∙ rw (value_shown m s u a k h, value_shown m s' u' b k h))
