-- A judge's answer is the one that the rows and the rules give, and they give only one.
use mathlib.Core.Path.{◌≡◌, refl, sym, ap, ◌∙◌, subst}
use mathlib.Core.Bool.{Bool, true, false, cond, ◌||◌, true≢false}
use mathlib.Core.List.{List}
use mathlib.Core.Option.{Option, none, some}
use mathlib.Core.Logic.{◌↔◌}
use Prim.Native.Nat.{ℕ}
use native.Mathlib.Omega.{arith}
use lib.IntN.{ℤ}
use Rattle.model.specs.Model.{Model, in_set}
use Rattle.model.specs.Limits.{broken}
use Rattle.model.specs.Lawful.{Lawful}
use Rattle.model.specs.Rules.{State, reached, changed, Step, Environment}
use Rattle.model.specs.Judge.{Answer, marked, yes, no, refused, row21, row22, row23, row24, environment_holds, step_holds, judge_to, judge_environment, StepPasses, EnvironmentPasses}
use Rattle.model.specs.Runs.{IsState, Proposal, to_step, to_environment, proposed, model_judge, goes}
use Rattle.model.proofs.Alike.{goes_state}
use Rattle.model.proofs.Tests.{or_none_right, or_self}
use Rattle.model.proofs.ByRules.{holds_step, step_holds_lem, holds_environment, environment_holds_lem}
use Rattle.theorem_runs.specs.Demand.{lacks_action, first_row, ByRules, by_row, step_yes, step_no, environment_yes, environment_no}

-- the rows in their order, as the judges ask them and as first_row does, by whether each holds
abbrev answered : Bool → Bool → Bool → Bool → Answer → Answer
answered a b c d x = cond a (refused 21) (cond b (refused 22) (cond c (refused 23) (cond d (refused 24) x)))

abbrev first : Bool → Bool → Bool → Bool → Option ℕ
first a b c d = broken 21 a (broken 22 b (broken 23 c (broken 24 d none)))

-- a row refuses, or none does
decided : (a b c d : Bool) (x : Answer) (P : Option ℕ → Answer → Type 0) → ((row : ℕ) → P (some row) (refused row))
    → (a ≡ false → b ≡ false → c ≡ false → P none x) → P (first a b c d) (answered a b c d x)
unfolding broken
decided true b c d x P f g = f 21
decided false true c d x P f g = f 22
decided false false true d x P f g = f 23
decided false false false true x P f g = f 24
decided false false false false x P f g = g refl refl refl

-- an environment step keeps the locations
still_22 : (m : Model) (s : State) (values : List ℤ) → (row22 m s || row22 m (changed s values)) ≡ row22 m s
unfolding row22
still_22 m s values = or_self _

-- what a judge says when no row refuses
unfoldable rest : Model → State → Proposal → Answer
rest m s (to_step a locations values) = cond (step_holds m s a (reached locations values)) (marked (in_set m a m.tree)) no
rest m s (to_environment values) = cond (environment_holds m s (changed s values)) yes no

-- both judges ask the rows so
rows_first : (m : Model) (s : State) (p : Proposal)
    → let t = proposed s p in model_judge m s p ≡ answered (row21 m s || row21 m t) (row22 m s || row22 m t) (row23 m s || row23 m t) (lacks_action m p) (rest m s p)
unfolding model_judge judge_to judge_environment proposed lacks_action rest
rows_first m s (to_step a locations values) = refl
rows_first m s (to_environment values) = rw (still_22 m s values)

module _ (m : Model) (s : State) (p : Proposal) where
  -- so a judge's answer is a refusal by the first row, or what the rules say
  judged : (P : Option ℕ → Answer → Type 0) → ((row : ℕ) → P (some row) (refused row))
      → ((row21 m s || row21 m (proposed s p)) ≡ false → (row22 m s || row22 m (proposed s p)) ≡ false → (row23 m s || row23 m (proposed s p)) ≡ false → P none (rest m s p))
      → P (first_row m s p) (model_judge m s p)
  unfolding first_row
  judged P f g = rw (rows_first m s p) (decided _ _ _ (lacks_action m p) (rest m s p) P f g)

-- a judge's answer leads from a state to a state
pub answer_state : (m : Model) (s : State) (p : Proposal) → IsState m s → IsState m (goes (model_judge m s p) s (proposed s p))
unfolding goes
answer_state m s p g =
    judged m s p (λ o x. IsState m (goes x s (proposed s p))) (λ row. g)
    (λ a b c. goes_state m (rest m s p) s (proposed s p) g (record { no_21 = or_none_right (row21 m s) _ a; no_22 = or_none_right (row22 m s) _ b; no_23 = or_none_right (row23 m s) _ c }))

-- when no row refuses, a judge says what the rules say
rules_say : (m : Model) → Lawful m → (s : State) (p : Proposal) → first_row m s p ≡ none → ByRules m s p (rest m s p)
unfolding rest
rules_say m lawful s (to_step a locations values) e = go (step_holds m s a t) refl
  where
    t : State
    t = reached locations values

    go : (b : Bool) → step_holds m s a t ≡ b → ByRules m s (to_step a locations values) (cond b (marked (in_set m a m.tree)) no)
    go true h = step_yes e (holds_step m lawful.tree.in_order s a t refl h)
    go false h = step_no e (λ mark q. true≢false (sym (step_holds_lem m lawful.tree.in_order s a t q) ∙ h))
rules_say m lawful s (to_environment values) e = go (environment_holds m s (changed s values)) refl
  where
    go : (b : Bool) → environment_holds m s (changed s values) ≡ b → ByRules m s (to_environment values) (cond b yes no)
    go true h = environment_yes e (holds_environment m lawful.tree.in_order s values h)
    go false h = environment_no e (λ q. true≢false (sym (environment_holds_lem m lawful.tree.in_order s values q) ∙ h))

-- a judge's answer is the one that the rows and the rules give
pub answer_by_rules : (m : Model) → Lawful m → (s : State) (p : Proposal) → ByRules m s p (model_judge m s p)
answer_by_rules m lawful s p = judged m s p (λ o x. first_row m s p ≡ o → ByRules m s p x) (λ row e. by_row e) (λ a b c e. rules_say m lawful s p e) refl

-- they give only one
row_or_none : (o : Option ℕ) {row : ℕ} → o ≡ some row → o ≡ none → ⊥
row_or_none o h e = let z : ◌≡◌ {A = ℕ} 0 1 = cc in omega arith

pub one_answer : (m : Model) (s : State) {p : Proposal} {x y : Answer} → ByRules m s p x → ByRules m s p y → x ≡ y
one_answer m s (by_row e) (by_row h) = cc
one_answer m s (by_row e) (step_yes h q) = absurd (row_or_none _ e h)
one_answer m s (by_row e) (step_no h q) = absurd (row_or_none _ e h)
one_answer m s (by_row e) (environment_yes h q) = absurd (row_or_none _ e h)
one_answer m s (by_row e) (environment_no h q) = absurd (row_or_none _ e h)
one_answer m s (step_yes e q) (by_row h) = absurd (row_or_none _ h e)
one_answer m s (step_yes e q) (step_yes h r) = ap marked (q.marked ∙ sym r.marked)
one_answer m s (step_yes e q) (step_no h r) = absurd (r _ q)
one_answer m s (step_no e q) (by_row h) = absurd (row_or_none _ h e)
one_answer m s (step_no e q) (step_yes h r) = absurd (q _ r)
one_answer m s (step_no e q) (step_no h r) = refl
one_answer m s (environment_yes e q) (by_row h) = absurd (row_or_none _ h e)
one_answer m s (environment_yes e q) (environment_yes h r) = refl
one_answer m s (environment_yes e q) (environment_no h r) = absurd (r q)
one_answer m s (environment_no e q) (by_row h) = absurd (row_or_none _ h e)
one_answer m s (environment_no e q) (environment_yes h r) = absurd (q r)
one_answer m s (environment_no e q) (environment_no h r) = refl

-- So the answer is a refusal exactly by the first row, and a yes exactly when no row refuses and the rules allow it.
pub refused_exactly : (m : Model) (s : State) (p : Proposal) (x : Answer)
    → ByRules m s p x → (row : ℕ) → (x ≡ refused row) ↔ (first_row m s p ≡ some row)
refused_exactly m s p x h row = (λ e. there h e, λ e. one_answer m s h (by_row e))
  where
    there : {q : Proposal} {y : Answer} → ByRules m s q y → y ≡ refused row → first_row m s q ≡ some row
    there (by_row e) g = cc
    there (step_yes e q) g = cc
    there (step_no e q) g = cc
    there (environment_yes e q) g = cc
    there (environment_no e q) g = cc

pub marked_exactly : (m : Model) (s : State) (a : ℕ) (locations : List ℕ) (values : List ℤ) (x : Answer)
    → let p = to_step a locations values in ByRules m s p x → (mark : Bool) → (x ≡ marked mark) ↔ ((first_row m s p ≡ none) × Step m s a (reached locations values) mark)
marked_exactly m s a locations values x h mark = (λ e. there (subst (ByRules m s (to_step a locations values)) e h), λ e. one_answer m s h (step_yes e.0 e.1))
  where
    there : ByRules m s (to_step a locations values) (marked mark) → (first_row m s (to_step a locations values) ≡ none) × Step m s a (reached locations values) mark
    there (step_yes e q) = (e, q)

pub yes_exactly : (m : Model) (s : State) (values : List ℤ) (x : Answer)
    → let p = to_environment values in ByRules m s p x → (x ≡ yes) ↔ ((first_row m s p ≡ none) × Environment m s values)
yes_exactly m s values x h = (λ e. there (subst (ByRules m s (to_environment values)) e h), λ e. one_answer m s h (environment_yes e.0 e.1))
  where
    there : ByRules m s (to_environment values) yes → (first_row m s (to_environment values) ≡ none) × Environment m s values
    there (environment_yes e q) = (e, q)

-- That no row refuses is what the model's StepPasses and EnvironmentPasses say.
none_first : (a b c d : Bool) → (first a b c d ≡ none) ↔ ((a ≡ false) × (b ≡ false) × (c ≡ false) × (d ≡ false))
unfolding broken
none_first true b c d = (λ e. absurd (row_or_none _ refl e), λ h. absurd (true≢false h.0))
none_first false true c d = (λ e. absurd (row_or_none _ refl e), λ h. absurd (true≢false h.1))
none_first false false true d = (λ e. absurd (row_or_none _ refl e), λ h. absurd (true≢false h.2))
none_first false false false true = (λ e. absurd (row_or_none _ refl e), λ h. absurd (true≢false h.3))
none_first false false false false = (λ e. (refl, refl, refl, refl), λ h. refl)

pub step_passes : (m : Model) (s : State) (a : ℕ) (locations : List ℕ) (values : List ℤ)
    → (first_row m s (to_step a locations values) ≡ none) ↔ StepPasses m s a (reached locations values)
unfolding first_row proposed lacks_action
step_passes m s a locations values = (
  λ e. let h = rows.0 e in record { no_21 = h.0; no_22 = h.1; no_23 = h.2; no_24 = h.3 },
  λ h. rows.1 (h.no_21, h.no_22, h.no_23, h.no_24),
)
  where
    t : State
    t = reached locations values

    rows : (first_row m s (to_step a locations values) ≡ none)
        ↔ (((row21 m s || row21 m t) ≡ false) × ((row22 m s || row22 m t) ≡ false) × ((row23 m s || row23 m t) ≡ false) × (row24 m a ≡ false))
    rows = none_first _ _ _ _

pub environment_passes : (m : Model) (s : State) (values : List ℤ) → (first_row m s (to_environment values) ≡ none) ↔ EnvironmentPasses m s values
unfolding first_row proposed lacks_action
environment_passes m s values = (
  λ e. let h = rows.0 e in record { no_21 = h.0; no_22 = sym (still_22 m s values) ∙ h.1; no_23 = h.2 },
  λ h. rows.1 (h.no_21, still_22 m s values ∙ h.no_22, h.no_23, refl),
)
  where
    t : State
    t = changed s values

    rows : (first_row m s (to_environment values) ≡ none)
        ↔ (((row21 m s || row21 m t) ≡ false) × ((row22 m s || row22 m t) ≡ false) × ((row23 m s || row23 m t) ≡ false) × (false ≡ false))
    rows = none_first _ _ _ _
