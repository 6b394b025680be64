-- Each way out of the code of src/judgement.rt; and from a state that has passed the rows, the judges answer as on a whole call.
use Rattle.model.specs.Row.{row}
use Rattle.std.proofs.Common.{Result, Ok, Err}
use Rattle.std.specs.Prelude.{⊤}
use Rattle.model.specs.declared.Row.{Row}
use Rattle.std.proofs.Common.{◌≡◌, ℕ, Bool, true, false, not, List, ℤ, sym, refl, ap, ◌∙◌}
use Rattle.model.proofs.Tests.{not-true, not-false}
use Rattle.table_places.specs.declared.layout.Layout.{Layout}
use Rattle.judge_rows.specs.declared.Phase.{Phase}
use Rattle.judge_rows.specs.declared.Phase.TheVariants.{Running}
use Rattle.judge_rows.specs.declared.State.{State}
use Rattle.judge_call.specs.declared.Answer.{Answer}
use Rattle.judge_call.specs.declared.Answer.TheVariants.{Yes, Marked, No}
use Rattle.judge_rows.specs.States.{state_of}
use Rattle.judge_rows.specs.RowTests.{phase_read, action_known}
use Rattle.judge_settled.specs.Settled.{settled_at}
use Rattle.judge_call.specs.Taken.{taken_at, mark_at}
use Rattle.judge_call.specs.Owners.{owned_keep_at}
use Rattle.judge_rows.specs.Checks.{state_checked, values_checked, then_lists, then_phase, admitted_on}
use Rattle.judge_call.specs.Calls.{then_rules, then_answer, environment_by, environment_on, environment_from, step_by, step_on, step_from}
use Rattle.judge_rows.proofs.KnownLaws.{Known, lists_new, still_new}

module _ (w : List ℕ) (x : Layout) where
  -- `environment_by`
  module _ (s s' : State) (b : Bool) (e : b ≡ settled_at w x s s') where
    pub environment_unsettled : not b ≡ true → Ok No ≡ environment_by w x s s'
    unfolding environment_by
    environment_unsettled f =
        let unsettled : settled_at w x s s' ≡ false = sym e ∙ not-true b f in
        rw (unsettled, environment_by)

    module _ (f : not b ≡ false) (r : Bool) (g : r ≡ owned_keep_at w x s s') where
      still_settled : settled_at w x s s' ≡ true
      still_settled = sym e ∙ not-false b f

      pub environment_yes : r ≡ true → Ok Yes ≡ environment_by w x s s'
      unfolding environment_by
      environment_yes h = rw (still_settled, environment_by, sym g ∙ h, environment_by)

      pub environment_no : r ≡ false → Ok No ≡ environment_by w x s s'
      unfolding environment_by
      environment_no h = rw (still_settled, environment_by, sym g ∙ h, environment_by)

  -- `environment_on`
  module _ (phase : ℕ) (l : List ℕ) (v v' : List ℤ) (y : Result Phase Row) (e : y ≡ admitted_on w x phase l v l v') where
    pub environment_out : (row : Row) → y ≡ Err row → Err row ≡ environment_on w x phase l v v'
    unfolding environment_on then_rules
    environment_out row f = rw (sym e ∙ f)

    pub environment_in : (q : Phase) → y ≡ Ok q → (s s' : State) → s ≡ state_of q l v → s' ≡ state_of Running l v' → (r : Result Answer Row)
        → r ≡ environment_by w x s s' → r ≡ environment_on w x phase l v v'
    unfolding environment_on then_rules
    environment_in q f s s' g h r i = rw (sym e ∙ f) (rw (g, h) at i)

  -- `environment_from`
  module _ (s : State) (v' : List ℤ) (s' : State) (c : Result ⊤ Row) (e : c ≡ values_checked w x v') where
    pub environment_refused : (row : Row) → c ≡ Err row → Err row ≡ environment_from w x s v' s'
    unfolding environment_from then_answer
    environment_refused row f = rw (sym e ∙ f)

    pub environment_judged : c ≡ Ok tt → (r : Result Answer Row) → r ≡ environment_by w x s s' → r ≡ environment_from w x s v' s'
    unfolding environment_from then_answer
    environment_judged f r g = rw (sym e ∙ f) g

  module _ (own : List ℕ) where
    -- `step_by_lem`
    module _ (s : State) (a : ℕ) (s' : State) (k : Bool) (g : k ≡ action_known x a) where
      pub step_24 : not k ≡ true → Err (row 24) ≡ step_by w x own s a s'
      unfolding step_by
      step_24 h =
          let unknown : action_known x a ≡ false = sym g ∙ not-true k h in
          rw (unknown, step_by)

      module _ (h : not k ≡ false) (b : Bool) (o : b ≡ settled_at w x s s') where
        acts : action_known x a ≡ true
        acts = sym g ∙ not-false k h

        pub step_unsettled : not b ≡ true → Ok No ≡ step_by w x own s a s'
        unfolding step_by
        step_unsettled n =
            let unsettled : settled_at w x s s' ≡ false = sym o ∙ not-true b n in
            rw (acts, step_by, unsettled, step_by)

        module _ (n : not b ≡ false) (c : Bool) (i : c ≡ taken_at w x own a s s') where
          is_settled : settled_at w x s s' ≡ true
          is_settled = sym o ∙ not-false b n

          pub step_untaken : not c ≡ true → Ok No ≡ step_by w x own s a s'
          unfolding step_by
          step_untaken y =
              let none : taken_at w x own a s s' ≡ false = sym i ∙ not-true c y in
              rw (acts, step_by, is_settled, step_by, none, step_by)

          pub step_taken : not c ≡ false → (r : Bool) → r ≡ mark_at w x own a → Ok (Marked r) ≡ step_by w x own s a s'
          unfolding step_by
          step_taken y r z =
              let some_move : taken_at w x own a s s' ≡ true = sym i ∙ not-false c y in
              rw (acts, step_by, is_settled, step_by, some_move, step_by) (ap (λ (b : Bool). Ok (Marked b)) z)

    -- `step_on`
    module _ (phase : ℕ) (l : List ℕ) (v : List ℤ) (a : ℕ) (l' : List ℕ) (v' : List ℤ) (y : Result Phase Row) (e : y ≡ admitted_on w x phase l v l' v') where
      pub step_out : (row : Row) → y ≡ Err row → Err row ≡ step_on w x own phase l v a l' v'
      unfolding step_on then_rules
      step_out row f = rw (sym e ∙ f)

      pub step_in : (q : Phase) → y ≡ Ok q → (s s' : State) → s ≡ state_of q l v → s' ≡ state_of Running l' v' → (r : Result Answer Row)
          → r ≡ step_by w x own s a s' → r ≡ step_on w x own phase l v a l' v'
      unfolding step_on then_rules
      step_in q f s s' g h r i = rw (sym e ∙ f) (rw (g, h) at i)

    -- `step_from`
    module _ (s : State) (a : ℕ) (l' : List ℕ) (v' : List ℤ) (s' : State) (c : Result ⊤ Row) (e : c ≡ state_checked w x l' v') where
      pub step_refused : (row : Row) → c ≡ Err row → Err row ≡ step_from w x own s a l' v' s'
      unfolding step_from then_answer
      step_refused row f = rw (sym e ∙ f)

      pub step_judged : c ≡ Ok tt → (r : Result Answer Row) → r ≡ step_by w x own s a s' → r ≡ step_from w x own s a l' v' s'
      unfolding step_from then_answer
      step_judged f r g = rw (sym e ∙ f) g

pub ruleset judgement_laws = (
  environment_unsettled,
  environment_yes,
  environment_no,
  environment_out,
  environment_in,
  environment_refused,
  environment_judged,
  step_24,
  step_unsettled,
  step_untaken,
  step_taken,
  step_out,
  step_in,
  step_refused,
  step_judged,
)

lists_then : (c : Result ⊤ Row) (q : Phase) (rules : Phase → Result Answer Row) → then_rules (then_lists c q) rules ≡ then_answer c (rules q)
unfolding then_rules then_lists then_answer
lists_then (Ok _) q rules = refl
lists_then (Err r) q rules = refl

module _ (w : List ℕ) (x : Layout) (l : List ℕ) (v : List ℤ) (known : Known w x l v) where
  -- so the judges answer from it as on a whole call
  module _ (phase : ℕ) (q : Phase) (read : phase_read phase ≡ Ok q) where
    pub step_from_on : (own : List ℕ) (a : ℕ) (l' : List ℕ) (v' : List ℤ)
        → step_from w x own (state_of q l v) a l' v' (state_of Running l' v') ≡ step_on w x own phase l v a l' v'
    unfolding step_from step_on admitted_on then_phase
    step_from_on own a l' v' = rw (read, lists_new w x l v known l' v') (sym (lists_then (state_checked w x l' v') q _))

    pub environment_from_on : (v' : List ℤ) → environment_from w x (state_of q l v) v' (state_of Running l v') ≡ environment_on w x phase l v v'
    unfolding environment_from environment_on admitted_on then_phase
    environment_from_on v' = rw (read, lists_new w x l v known l v', still_new w x l v known v') (sym (lists_then (values_checked w x v') q _))
