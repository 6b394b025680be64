-- Table 1 as printed, where each rule carries its mark, and the rules with the mark said once of the whole.
use mathlib.Core.Path.{◌≡◌, refl, sym, ◌∙◌, subst}
use mathlib.Core.Bool.{Bool, or-false, or_comm}
use mathlib.Core.List.{List}
use mathlib.Core.Logic.{◌↔◌}
use Prim.Native.Nat.{ℕ}
use Rattle.model.specs.Basic.{member}
use Rattle.model.specs.Composition.{Tree}
use Rattle.model.specs.Model.{Model, in_set}
use Rattle.model.specs.Rules.{State, Taker, Moves, rule_1, rule_3, rule_4_left, rule_4_right, rule_6, ini_moves, MarkedMoves, marked_1, marked_3, marked_4_left, marked_4_right, marked_6, marked_ini}

module _ (m : Model) (s : State) (a : ℕ) (t : State) where
  -- the printed mark is whether the action is in the composition's set
  mark_is : {c : Tree} {b : Bool} {x : List Taker} → MarkedMoves m s a t c b x → b ≡ in_set m a c
  unfolding in_set
  mark_is (marked_1 h) = refl
  mark_is (marked_3 g h) = rw (← mark_is g)
  mark_is (marked_4_left g r q) = mark_is g ∙ rw (q, or-false)
  mark_is (marked_4_right r h q) = mark_is h ∙ rw q
  mark_is (marked_6 {list = list} {b = b} h) = or_comm b (member a list) ∙ rw (mark_is h)
  mark_is (marked_ini g h) = mark_is h

  unmarked : {c : Tree} {b : Bool} {x : List Taker} → MarkedMoves m s a t c b x → Moves m s a t c x
  unmarked (marked_1 h) = rule_1 h
  unmarked (marked_3 g h) = rule_3 (sym (mark_is g)) (sym (mark_is h)) (unmarked g) (unmarked h)
  unmarked (marked_4_left g r q) = rule_4_left (unmarked g) r q
  unmarked (marked_4_right r h q) = rule_4_right r (unmarked h) q
  unmarked (marked_6 h) = rule_6 (unmarked h)
  unmarked (marked_ini g h) = ini_moves g (unmarked h)

  marked_by : {c : Tree} {b b' : Bool} {x : List Taker} → b ≡ b' → MarkedMoves m s a t c b x → MarkedMoves m s a t c b' x
  marked_by {c} {x = x} e h = subst (λ (b : Bool). MarkedMoves m s a t c b x) e h

  with_mark : {c : Tree} {x : List Taker} → Moves m s a t c x → MarkedMoves m s a t c (in_set m a c) x
  unfolding in_set
  with_mark (rule_1 h) = marked_1 h
  with_mark (rule_3 p q g h) = marked_by (sym (rw p)) (marked_3 (marked_by p (with_mark g)) (marked_by q (with_mark h)))
  with_mark (rule_4_left g r q) = marked_by (sym (rw (q, or-false))) (marked_4_left (with_mark g) r q)
  with_mark (rule_4_right r h q) = marked_by (sym (rw q)) (marked_4_right r (with_mark h) q)
  with_mark (rule_6 {list = list} {c = c} h) = marked_by (or_comm (in_set m a c) (member a list)) (marked_6 (with_mark h))
  with_mark (ini_moves g h) = marked_ini g (with_mark h)

  -- Table 1 as printed is `Moves` with the mark of the whole
  pub table_1_is : (c : Tree) (b : Bool) (x : List Taker) → MarkedMoves m s a t c b x ↔ (Moves m s a t c x × (b ≡ in_set m a c))
  table_1_is c b x = (λ h. (unmarked h, mark_is h), λ h. marked_by (sym h.1) (with_mark h.0))
