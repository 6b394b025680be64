-- Each way out of the code of src/.
use Rattle.model.specs.declared.Row.{Row}
use Rattle.std.proofs.Common.{Result, Ok, Err}
use mathlib.Core.Path.{◌≡◌, sym, ◌∙◌}
use mathlib.Core.Bool.{Bool, true, false}
use mathlib.Core.List.{List}
use Prim.Native.Nat.{ℕ, ◌%◌, ◌^◌}
use lib.IntN.{ℤ}
use lib.Dec.{eqb}
use Rattle.table_places.specs.declared.layout.Layout.{Layout}
use Rattle.judge_rows.specs.declared.Phase.TheVariants.{Running}
use Rattle.judge_rows.specs.declared.State.{State}
use Rattle.judge_turn.specs.declared.Turn.{Turn}
use Rattle.judge_call.specs.declared.Answer.{Answer}
use Rattle.judge_call.specs.declared.Answer.TheVariants.{Yes, Marked, No}
use Rattle.judge_call.specs.Answers.{answer_of, answer_number}
use Rattle.judge_rows.specs.States.{state_of}
use Rattle.judge_call.specs.Calls.{environment_from, step_from}
use Rattle.judge_turn.specs.Turns.{environment_mark, judged_on, proposed_on, moved_to, turn_on}

-- `judged`
module _ (w : List ℕ) (x : Layout) (own : List ℕ) (s : State) (a : ℕ) (l' : List ℕ) (v' : List ℤ) (t : State) (b : Bool) (h : b ≡ eqb a environment_mark) (r : Result Answer Row) where
  pub judged_environment : b ≡ true → r ≡ environment_from w x s v' t → r ≡ judged_on w x own s a l' v' t
  unfolding judged_on
  judged_environment i j = rw (sym h ∙ i, judged_on) j

  pub judged_step : b ≡ false → r ≡ step_from w x own s a l' v' t → r ≡ judged_on w x own s a l' v' t
  unfolding judged_on
  judged_step i j = rw (sym h ∙ i, judged_on) j

-- `proposed`
module _ (s : State) (a : ℕ) (l' : List ℕ) (v' : List ℤ) (b : Bool) (h : b ≡ eqb a environment_mark) where
  pub proposed_still : b ≡ true → (r : State) → r ≡ state_of Running s.locations v' → r ≡ proposed_on s a l' v'
  unfolding proposed_on
  proposed_still i r j = rw (sym h ∙ i, proposed_on) j

  pub proposed_new : b ≡ false → (r : State) → r ≡ state_of Running l' v' → r ≡ proposed_on s a l' v'
  unfolding proposed_on
  proposed_new i r j = rw (sym h ∙ i, proposed_on) j

-- `moved`
module _ (x : Result Answer Row) (s t : State) where
  pub moved_yes : x ≡ Ok Yes → t ≡ moved_to x s t
  unfolding moved_to
  moved_yes e = rw e

  pub moved_marked : (mark : Bool) → x ≡ Ok (Marked mark) → t ≡ moved_to x s t
  unfolding moved_to
  moved_marked mark e = rw e

  pub moved_no : x ≡ Ok No → s ≡ moved_to x s t
  unfolding moved_to
  moved_no e = rw e

  pub moved_refused : (row : Row) → x ≡ Err row → s ≡ moved_to x s t
  unfolding moved_to
  moved_refused row e = rw e

-- `put`
pub turn_is : (w : List ℕ) (x : Layout) (own : List ℕ) (s : State) (a : ℕ) (l' : List ℕ) (v' : List ℤ) (t : State) (y : Result Answer Row) (num : ℕ) (r : State)
    → t ≡ proposed_on s a l' v' → y ≡ judged_on w x own s a l' v' t → num ≡ answer_number (answer_of y) % 2 ^ 32 → r ≡ moved_to y s t
    → ◌≡◌ {A = Turn} (record { number = num; state = r }) (turn_on w x own s a l' v')
unfolding turn_on
turn_is w x own s a l' v' t y num r g e f h = rw (f, h, e, g)

pub ruleset turn_laws = (judged_environment, judged_step, proposed_still, proposed_new, moved_yes, moved_marked, moved_no, moved_refused, turn_is)
