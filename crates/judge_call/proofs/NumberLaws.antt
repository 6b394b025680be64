-- The numbers of answers: one law for each way out of `number`, and that no judge's number is too long for 32 bits.
use Rattle.model.specs.declared.Row.{Row}
use Rattle.std.proofs.Common.{◌≡◌, ℕ, ◌+◌, ◌%◌, ◌^◌, ◌<◌, Bool, true, false, cond, ◌||◌, List, length, ℤ, refl, ap, ◌∙◌, mod-eq_of_lt, lit<, Result, Ok, Err}
use mathlib.Core.Option.{Option, none, some}
use Rattle.model.specs.Model.{Model, in_set}
use Rattle.model.specs.Table.{row18, model_of, Opened, unopened, opened, open_table}
use Rattle.model.specs.Rules as R
use Rattle.model.specs.Judge as J
use Rattle.model.specs.Runs.{Proposal, to_step, to_environment, phase_number, call_of, table_judge}
use Rattle.judge_call.specs.Answers.{answer_of, answer_number}
use Rattle.judge_call.specs.declared.Answer.{Answer}
use Rattle.judge_call.specs.declared.Answer.TheVariants.{Yes, Marked, No}

-- `number`
module _ (x : Result Answer Row) where
  pub number_no : x ≡ Ok No → 0 ≡ answer_number (answer_of x) % 2 ^ 32
  unfolding answer_number answer_of
  number_no h = rw h

  pub number_yes : x ≡ Ok Yes → 1 ≡ answer_number (answer_of x) % 2 ^ 32
  unfolding answer_number answer_of
  number_yes h = rw h

  module _ (mark : Bool) (h : x ≡ Ok (Marked mark)) where
    pub number_marked : mark ≡ true → 2 ≡ answer_number (answer_of x) % 2 ^ 32
    unfolding answer_number answer_of
    number_marked i = rw (h, i)

    pub number_unmarked : mark ≡ false → 1 ≡ answer_number (answer_of x) % 2 ^ 32
    unfolding answer_number answer_of
    number_unmarked i = rw (h, i)

  pub number_refused : (row : Row) (r : ℕ) → x ≡ Err row → r ≡ (100 + row.0) % 2 ^ 32 → r ≡ answer_number (answer_of x) % 2 ^ 32
  unfolding answer_number answer_of
  number_refused row r h e = rw h e

pub ruleset number_laws = (number_no, number_yes, number_marked, number_unmarked, number_refused)

-- the number fits 32 bits
pub record Fits (a : J.Answer) : Type 0 where
  pub below : answer_number a < 2 ^ 32

fits_cond : (b : Bool) {x y : J.Answer} → Fits x → Fits y → Fits (cond b x y)
fits_cond true f g = f
fits_cond false f g = g

fits_marked : (mark : Bool) → Fits (J.marked mark)
unfolding answer_number
fits_marked true = record { below = lit< tt }
fits_marked false = record { below = lit< tt }

-- a table is refused with 18 or with 19
open_cases : (t : List ℕ) (P : Opened → Type 0) → P (unopened 18) → P (unopened 19) → ((m : Model) → P (opened m)) → P (open_table t)
unfolding open_table
open_cases t P first second good = go (row18 (length t)) refl
  where
    go : (b : Bool) → row18 (length t) ≡ b → P (open_table t)
    go true e = rw (e, open_table) first
    go false e = rest (model_of t) refl
      where
        rest : (o : Option Model) → model_of t ≡ o → P (open_table t)
        rest none f = rw (e, open_table, f, open_table) second
        rest (some m) f = rw (e, open_table, f, open_table) (good m)

module _ (t : List ℕ) (phase : ℕ) (l : List ℕ) (v : List ℤ) where
  phase_fits : (judge : R.Phase → J.Answer) (o : Option R.Phase) → ((p : R.Phase) → Fits (judge p)) → Fits (elim o [ none ↦ J.refused 20 | some p ↦ judge p ])
  unfolding answer_number
  phase_fits judge none f = record { below = lit< tt }
  phase_fits judge (some p) f = f p

  call_fits : (judge : Model → R.State → J.Answer) → ((m : Model) (s : R.State) → Fits (judge m s)) → Fits (J.judge_at t phase l v judge)
  unfolding J.judge_at answer_number
  call_fits judge f =
      open_cases t
      (λ o. Fits (elim o [ unopened row ↦ J.refused row | opened m ↦ elim (J.phase_of phase) [ none ↦ J.refused 20 | some p ↦ judge m (record { phase = p; locations = l; values = v }) ] ]))
      (record { below = lit< tt })
      (record { below = lit< tt })
      (λ m. phase_fits (λ p. judge m (record { phase = p; locations = l; values = v })) (J.phase_of phase) (λ p. f m (record { phase = p; locations = l; values = v })))

  pub environment_fits : (v' : List ℤ) → Fits (J.environment_answer t phase l v v')
  unfolding J.environment_answer J.judge_environment answer_number
  environment_fits v' =
      call_fits (λ m s. J.judge_environment m s v')
      (λ m s.
      fits_cond (J.row21 m s || J.row21 m (R.changed s v')) (record { below = lit< tt })
      (fits_cond (J.row22 m s) (record { below = lit< tt })
      (fits_cond (J.row23 m s || J.row23 m (R.changed s v')) (record { below = lit< tt })
      (fits_cond (J.environment_holds m s (R.changed s v')) (record { below = lit< tt }) (record { below = lit< tt })))))

  pub step_fits : (a : ℕ) (l' : List ℕ) (v' : List ℤ) → Fits (J.step_answer t phase l v a l' v')
  unfolding J.step_answer J.judge_to answer_number
  step_fits a l' v' =
      call_fits (λ m s. J.judge_step m s a l' v')
      (λ m s.
      fits_cond (J.row21 m s || J.row21 m (R.reached l' v')) (record { below = lit< tt })
      (fits_cond (J.row22 m s || J.row22 m (R.reached l' v')) (record { below = lit< tt })
      (fits_cond (J.row23 m s || J.row23 m (R.reached l' v')) (record { below = lit< tt })
      (fits_cond (J.row24 m a) (record { below = lit< tt })
      (fits_cond (J.step_holds m s a (R.reached l' v')) (fits_marked (in_set m a m.tree)) (record { below = lit< tt }))))))

-- so the code's number, which could wrap, is the answer's
pub unwrapped : {r : ℕ} {x a : J.Answer} → Fits a → x ≡ a → r ≡ answer_number x % 2 ^ 32 → r ≡ answer_number a
unwrapped fits e h = h ∙ ap (λ (y : J.Answer). answer_number y % 2 ^ 32) e ∙ mod-eq_of_lt fits.below

pub judge_fits : (t : List ℕ) (s : R.State) (p : Proposal) → Fits (table_judge t s p)
unfolding table_judge call_of J.answer_to
judge_fits t s (to_step a l' v') = step_fits t (phase_number s.phase) s.locations s.values a l' v'
judge_fits t s (to_environment v') = environment_fits t (phase_number s.phase) s.locations s.values v'
