-- Demand 1 of the judges.
use Prim.Native.Nat.{ℕ}
use mathlib.Core.Path.{◌≡◌, refl, sym, ◌∙◌}
use mathlib.Core.Bool.{Bool, true, false, cond, ◌||◌}
use mathlib.Core.List.Memᴰ
use mathlib.Core.List.{List, [], ◌∷◌}
use mathlib.Core.Option.{none, some}
use mathlib.Core.Logic.{◌↔◌, ◌⊎◌, inl, inr}
use native.Mathlib.Omega.{arith}
use lib.IntN.{ℤ}
use lib.Dec.{eqb}
use Rattle.model.specs.Model.{Model, in_set}
use Rattle.model.specs.Limits.{broken}
use Rattle.model.specs.Lawful.{Lawful}
use Rattle.model.specs.Table.{unopened, opened, open_table}
use Rattle.model.specs.Rules.{Phase, start, running, State, reached, changed, Step, Environment}
use Rattle.model.specs.Judge.{Answer, marked, yes, no, refused, phase_of, row21, row22, row23, row24, environment_holds, step_holds, judge_to, judge_step, judge_environment, judge_at, step_answer, environment_answer}
use Rattle.model.proofs.LimitsLaws.{lawful_is}
use Rattle.model.proofs.TableJudge.{state_at}
use Rattle.model.proofs.ByRules.{refused_marked, refused_yes, step_by_rules, environment_by_rules, no_marked, no_yes}
use Rattle.format.specs.Refused.{Conditions, Unbroken}
use Rattle.format.proofs.Smallest.{first_of, rises_from}
use Rattle.theorem_definition4.proofs.Definition4Is.{opened_limited}
use Rattle.model.proofs.TableLaws.{opened_model}
use Rattle.theorem_demands.specs.Rows.{table_rows, row20, step_rows, environment_rows}
use Rattle.theorem_demands.specs.Calls.{StepCall, EnvironmentCall, FromState}
use Rattle.theorem_demands.proofs.Decided.{unheld, Decided, by_row, by_none, Tells, refused_by, accepted_by, Opening, short, no_model, of_model, opening, table_rise, own_unbroken, table_decided}

-- row 20, by what the number names
data PhaseCase (phase : ℕ) : Type 0 where
  no_phase : phase_of phase ≡ none → row20 phase ≡ true → PhaseCase phase
  a_phase : (p : Phase) → phase_of phase ≡ some p → row20 phase ≡ false → PhaseCase phase

phase_case : (phase : ℕ) → PhaseCase phase
unfolding phase_of row20
phase_case phase = go (eqb phase 0) refl (eqb phase 1) refl
  where
    go : (b : Bool) → eqb phase 0 ≡ b → (c : Bool) → eqb phase 1 ≡ c → PhaseCase phase
    go true e c f = a_phase start (rw (e, phase_of)) (rw e)
    go false e true f = a_phase running (rw (e, phase_of, f)) (rw (e, f))
    go false e false f = no_phase (rw (e, phase_of, f)) (rw (e, f))

refused_no : (row : ℕ) → refused row ≡ no → ⊥
refused_no row h = let z : ◌≡◌ {A = ℕ} 0 1 = cc in omega arith

-- either judge over a table: rows 18, 19 and 20 come first
module _ (t : List ℕ) (phase : ℕ) (locations : List ℕ) (values : List ℤ) (judge : Model → State → Answer) where
  at_unopened : (row : ℕ) → open_table t ≡ unopened row → judge_at t phase locations values judge ≡ refused row
  unfolding judge_at
  at_unopened row o = rw (o, judge_at)

  at_none : (m : Model) → open_table t ≡ opened m → phase_of phase ≡ none
      → judge_at t phase locations values judge ≡ refused 20
  unfolding judge_at
  at_none m o e = rw (o, judge_at, e)

  at_some : (m : Model) → open_table t ≡ opened m → (p : Phase) → phase_of phase ≡ some p
      → judge_at t phase locations values judge ≡ judge m (state_at p locations values)
  unfolding judge_at
  at_some m o p e = rw (o, judge_at, e)

  module _ (Judged : Answer → Type 0) (others : Model → Conditions)
      (decided : (m : Model) (p : Phase) → Decided refused Judged (others m) (judge m (state_at p locations values))) where
    own : Model → Conditions
    own m = (20, row20 phase) ∷ others m

    in_phase : (m : Model) → row20 phase ≡ false → (x : Answer) → judge_at t phase locations values judge ≡ x
        → Decided refused Judged (others m) x
        → Decided refused Judged (own m) (judge_at t phase locations values judge)
    unfolding first_of broken own
    in_phase m e x h (by_row row f q) = by_row row (rw e f) (h ∙ q)
    in_phase m e x h (by_none f g) = by_none (rw e f) (rw h g)

    at_opened : (m : Model) → open_table t ≡ opened m
        → Decided refused Judged (own m) (judge_at t phase locations values judge)
    unfolding first_of broken own
    at_opened m o = go (phase_case phase)
      where
        go : PhaseCase phase → Decided refused Judged (own m) (judge_at t phase locations values judge)
        go (no_phase e f) = by_row 20 (rw f) (at_none m o e)
        go (a_phase p e f) = in_phase m f _ (at_some m o p e) (decided m p)

    judge_decided : Decided refused Judged (table_rows own t) (judge_at t phase locations values judge)
    judge_decided = table_decided own t refused Judged _ at_unopened at_opened

-- the rules' part: where the answer is the judge's, from a state of the sheet
module _ (t : List ℕ) (phase : ℕ) (locations : List ℕ) (values : List ℤ) (judge : Model → State → Answer)
    (own : Model → Conditions) (Allow : Model → State → Type 0) (x : Answer) (other : (row : ℕ) → refused row ≡ x → ⊥) where
  -- an answer that is no refusal is given at a state
  given_at : ((m : Model) → Lawful m → (s : State) → judge m s ≡ x → Allow m s)
      → judge_at t phase locations values judge ≡ x → FromState t phase locations values Allow
  given_at rules h = go (opening t)
    where
      at : (m : Model) → open_table t ≡ opened m → PhaseCase phase → FromState t phase locations values Allow
      at m o (no_phase e f) = absurd (other 20 (sym (at_none t phase locations values judge m o e) ∙ h))
      at m o (a_phase p e f) = record {
        model = m;
        opens = o;
        in_phase = p;
        names = e;
        allow =
            rules m ((lawful_is m).0 (opened_limited t m o)) (state_at p locations values) (sym (at_some t phase locations values judge m o p e) ∙ h);
      }

      go : Opening t → FromState t phase locations values Allow
      go (short e o) = absurd (other 18 (sym (at_unopened t phase locations values judge 18 o) ∙ h))
      go (no_model e p o) = absurd (other 19 (sym (at_unopened t phase locations values judge 19 o) ∙ h))
      go (of_model m e p o) = at m o (phase_case phase)

  -- and is given there if no row's condition holds
  given_by : ((m : Model) → Lawful m → (p : Phase) → Unbroken (own m) → Allow m (state_at p locations values) → judge m (state_at p locations values) ≡ x)
      → Unbroken (table_rows own t) → FromState t phase locations values Allow → judge_at t phase locations values judge ≡ x
  given_by rules u s =
      at_some t phase locations values judge s.model s.opens s.in_phase s.names
      ∙ rules s.model ((lawful_is s.model).0 (opened_limited t s.model s.opens)) s.in_phase
      (own_unbroken own t s.model (opened_model t s.model s.opens) u) s.allow

-- the step judge
abbrev SaysStep : Answer → Type 0
SaysStep x = (x ≡ no) ⊎ ((mark : Bool) × (x ≡ marked mark))

step_tells : Tells refused SaysStep
step_tells = record { row_told = λ row other e. cc; apart = apart }
  where
    apart : (row : ℕ) → SaysStep (refused row) → ⊥
    apart row (inl h) = refused_no row h
    apart row (inr (mark, h)) = refused_marked row h

step_says : (b mark : Bool) → SaysStep (cond b (marked mark) no)
step_says true mark = inr (mark, refl)
step_says false mark = inl refl

four : (a b c d : Bool) (x : Answer) → SaysStep x
    → Decided refused SaysStep ((21, a) ∷ (22, b) ∷ (23, c) ∷ (24, d) ∷ []) (cond a (refused 21) (cond b (refused 22) (cond c (refused 23) (cond d (refused 24) x))))
unfolding first_of broken
four true b c d x g = by_row 21 refl refl
four false true c d x g = by_row 22 refl refl
four false false true d x g = by_row 23 refl refl
four false false false true x g = by_row 24 refl refl
four false false false false x g = by_none refl g

module _ (t : List ℕ) (phase : ℕ) (locations : List ℕ) (values : List ℤ) (action : ℕ) (locations' : List ℕ) (values' : List ℤ) where
  abbrev step_own : Model → Conditions
  step_own m = step_rows phase locations values action locations' values' m

  abbrev step_said : Answer
  step_said = step_answer t phase locations values action locations' values'

  abbrev Allowed : Bool → Type 0
  Allowed mark = FromState t phase locations values (λ m s. Step m s action (reached locations' values') mark)

  step_others : Model → Conditions
  step_others m =
      let s = reached locations values in
      let t' = reached locations' values' in
      (21, row21 m s || row21 m t') ∷ (22, row22 m s || row22 m t') ∷ (23, row23 m s || row23 m t') ∷ (24, row24 m action) ∷ []

  step_decided : Decided refused SaysStep (table_rows step_own t) step_said
  unfolding step_answer step_rows own step_others judge_to row21 row22 row23
  step_decided =
      judge_decided t phase locations values (λ m s. judge_step m s action locations' values') SaysStep step_others
      (λ m p. four _ _ _ _ _ (step_says (step_holds m (state_at p locations values) action (reached locations' values')) (in_set m action m.tree)))

  step_rise : rises_from 0 (table_rows step_own t) ≡ true
  step_rise = table_rise step_own t (λ m. unfold step_rows rises_from in refl)

  step_marked : (mark : Bool) → (step_said ≡ marked mark)
      ↔ (Unbroken (table_rows step_own t) × Allowed mark)
  unfolding step_answer step_rows row21 row22 row23
  step_marked mark = (
    λ h. (
      (accepted_by refused SaysStep step_tells _ _ step_decided).0 (inr (mark, h)),
      given_at t phase locations values _ step_own _ (marked mark) refused_marked (λ m l s e. ((step_by_rules m l s action locations' values' mark).0 e).1) h,
    ),
    λ (u, s). given_by t phase locations values _ step_own _ (marked mark) refused_marked
        (λ m l p v q. (step_by_rules m l (state_at p locations values) action locations' values' mark).1 (
          record {
            no_21 = unheld v 21 _ (Memᴰ.tail (Memᴰ.head refl));
            no_22 = unheld v 22 _ (Memᴰ.tail (Memᴰ.tail (Memᴰ.head refl)));
            no_23 = unheld v 23 _ (Memᴰ.tail (Memᴰ.tail (Memᴰ.tail (Memᴰ.head refl))));
            no_24 =
                unheld v 24 _ (Memᴰ.tail (Memᴰ.tail (Memᴰ.tail (Memᴰ.tail (Memᴰ.head refl)))));
          },
          q,
        ))
        u s,
  )

  pub step_call : StepCall (table_rows step_own t) step_said Allowed
  step_call = record {
    refused_exactly = refused_by refused SaysStep step_tells _ _ step_rise step_decided;
    judged_exactly = judged;
    marked_exactly = step_marked;
    no_exactly = (
      λ h. (judged.0 (inl h), λ mark s. no_marked (sym h ∙ (step_marked mark).1 (judged.0 (inl h), s))),
      λ (u, none_allowed). says none_allowed (judged.1 u),
    );
  }
    where
      judged : SaysStep step_said ↔ Unbroken (table_rows step_own t)
      judged = accepted_by refused SaysStep step_tells _ _ step_decided

      says : ((mark : Bool) → Allowed mark → ⊥) → SaysStep step_said → step_said ≡ no
      says none_allowed (inl h) = h
      says none_allowed (inr (mark, h)) = absurd (none_allowed mark ((step_marked mark).0 h).1)

-- the environment judge
abbrev SaysChange : Answer → Type 0
SaysChange x = (x ≡ no) ⊎ (x ≡ yes)

change_tells : Tells refused SaysChange
change_tells = record { row_told = λ row other e. cc; apart = apart }
  where
    apart : (row : ℕ) → SaysChange (refused row) → ⊥
    apart row (inl h) = refused_no row h
    apart row (inr h) = refused_yes row h

change_says : (b : Bool) → SaysChange (cond b yes no)
change_says true = inr refl
change_says false = inl refl

three : (a b c : Bool) (x : Answer) → SaysChange x
    → Decided refused SaysChange ((21, a) ∷ (22, b) ∷ (23, c) ∷ []) (cond a (refused 21) (cond b (refused 22) (cond c (refused 23) x)))
unfolding first_of broken
three true b c x g = by_row 21 refl refl
three false true c x g = by_row 22 refl refl
three false false true x g = by_row 23 refl refl
three false false false x g = by_none refl g

module _ (t : List ℕ) (phase : ℕ) (locations : List ℕ) (values values' : List ℤ) where
  abbrev change_own : Model → Conditions
  change_own m = environment_rows phase locations values values' m

  abbrev change_said : Answer
  change_said = environment_answer t phase locations values values'

  change_others : Model → Conditions
  change_others m =
      let s = reached locations values in
      let t' = reached locations values' in
      (21, row21 m s || row21 m t') ∷ (22, row22 m s) ∷ (23, row23 m s || row23 m t') ∷ []

  change_decided : Decided refused SaysChange (table_rows change_own t) change_said
  unfolding environment_answer environment_rows own change_others judge_environment row21 row22 row23
  change_decided =
      judge_decided t phase locations values (λ m s. judge_environment m s values') SaysChange change_others
      (λ m p. three _ _ _ _ (change_says (environment_holds m (state_at p locations values) (changed (state_at p locations values) values'))))

  change_rise : rises_from 0 (table_rows change_own t) ≡ true
  change_rise = table_rise change_own t (λ m. unfold environment_rows rises_from in refl)

  change_yes : (change_said ≡ yes)
      ↔ (Unbroken (table_rows change_own t) × FromState t phase locations values (λ m s. Environment m s values'))
  unfolding environment_answer environment_rows row21 row22 row23
  change_yes = (
    λ h. (
      (accepted_by refused SaysChange change_tells _ _ change_decided).0 (inr h),
      given_at t phase locations values _ change_own _ yes refused_yes (λ m l s e. ((environment_by_rules m l s values').0 e).1) h,
    ),
    λ (u, s). given_by t phase locations values _ change_own _ yes refused_yes
        (λ m l p v q. (environment_by_rules m l (state_at p locations values) values').1 (
          record {
            no_21 = unheld v 21 _ (Memᴰ.tail (Memᴰ.head refl));
            no_22 = unheld v 22 _ (Memᴰ.tail (Memᴰ.tail (Memᴰ.head refl)));
            no_23 = unheld v 23 _ (Memᴰ.tail (Memᴰ.tail (Memᴰ.tail (Memᴰ.head refl))));
          },
          q,
        ))
        u s,
  )

  pub change_call : EnvironmentCall (table_rows change_own t) change_said (FromState t phase locations values (λ m s. Environment m s values'))
  change_call = record {
    refused_exactly = refused_by refused SaysChange change_tells _ _ change_rise change_decided;
    judged_exactly = judged;
    yes_exactly = change_yes;
    no_exactly = (
      λ h. (judged.0 (inl h), λ s. no_yes (sym h ∙ change_yes.1 (judged.0 (inl h), s))),
      λ (u, disallowed). says disallowed (judged.1 u),
    );
  }
    where
      judged : SaysChange change_said ↔ Unbroken (table_rows change_own t)
      judged = accepted_by refused SaysChange change_tells _ _ change_decided

      says : (FromState t phase locations values (λ m s. Environment m s values') → ⊥) → SaysChange change_said
          → change_said ≡ no
      says disallowed (inl h) = h
      says disallowed (inr h) = absurd (disallowed (change_yes.0 h).1)
