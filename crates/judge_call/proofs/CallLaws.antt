-- The judges' calls: the code's answer over any table is the definitions'.
use Rattle.std.proofs.Common.{Result, Ok, Err}
use Rattle.std.specs.Prelude.{⊤}
use Rattle.model.specs.declared.Row.{Row}
use Rattle.std.proofs.Common.{◌≡◌, ℕ, Bool, true, false, cond, not, ◌&&◌, ◌||◌, List, length, ℤ, sym, refl, ap, ◌∙◌}
use mathlib.Core.Bool.{or_self}
use mathlib.Core.Option.{none, some}
use Rattle.model.specs.Model.{Model}
use Rattle.model.specs.Table.{Opened, unopened, opened, open_table}
use Rattle.model.specs.Rules as R
use Rattle.model.specs.Judge as J
use Rattle.model.proofs.Tests.{or_same}
use Rattle.table_places.specs.declared.layout.Layout.{Layout}
use Rattle.table_places.specs.Layout.{layout_of}
use Rattle.table_places.proofs.Opened.{Sheet, sheet_of}
use Rattle.table_check.specs.Check.{answered}
use Rattle.judge_rows.specs.declared.Phase.{Phase}
use Rattle.judge_rows.specs.declared.Phase.TheVariants.{Running}
use Rattle.judge_call.specs.declared.Answer.{Answer}
use Rattle.judge_call.specs.declared.Answer.TheVariants.{Yes, No}
use Rattle.judge_call.specs.Answers.{answer_of}
use Rattle.judge_rows.specs.Phases.{phase_is}
use Rattle.judge_rows.specs.States.{state_of}
use Rattle.judge_rows.specs.RowTests.{lengths_fit, locations_known, values_known}
use Rattle.judge_settled.specs.Settled.{settled_at}
use Rattle.judge_call.specs.Owners.{owned_keep_at}
use Rattle.judge_rows.specs.Checks.{lists_checked, then_lists, then_phase, admitted_on}
use Rattle.judge_call.specs.Calls.{then_rules, then_answer, environment_by, environment_in, environment_on, environment_at}
use Rattle.judge_rows.proofs.RowLaws.{lengths_row, locations_row, values_row}
use Rattle.judge_rows.proofs.StateLaws.{stands, phase_read_lem, Pass, shows_old, shows_new}
use Rattle.judge_settled.proofs.SettledLaws.{settled_is}
use Rattle.judge_call.proofs.OwnerLaws.{owned_keep_is}

-- what rows 21 to 23 say of two states of a model, before `last`
unfoldable pub list_rows : Model → (u u' : R.State) → J.Answer → J.Answer
list_rows m u u' last =
    cond (J.row21 m u || J.row21 m u') (J.refused 21)
    (cond (J.row22 m u || J.row22 m u') (J.refused 22)
    (cond (J.row23 m u || J.row23 m u') (J.refused 23) last))

module _ (t : List ℕ) (phase : ℕ) (l : List ℕ) (v : List ℤ) (l' : List ℕ) (v' : List ℤ) where
  -- rows 21 to 23 over a sheet's words
  module _ (m : Model) (sheet : Sheet t m) (q : Phase) (rules : Phase → Result Answer Row) (last : J.Answer) where
    abbrev u : R.State
    u = stands q l v

    abbrev u' : R.State
    u' = stands Running l' v'

    lists_exact : (Pass m u u' → answer_of (rules q) ≡ last) → answer_of (then_rules (then_lists (lists_checked t (layout_of t) l v l' v') q) rules) ≡ list_rows m u u' last
    unfolding phase_is
    lists_exact h =
        rows (J.row21 m u || J.row21 m u') refl (J.row22 m u || J.row22 m u') refl (J.row23 m u || J.row23 m u') refl
      where
        r21 : (not (lengths_fit (layout_of t) (length l) (length v)) || not (lengths_fit (layout_of t) (length l') (length v'))) ≡ (J.row21 m u || J.row21 m u')
        r21 = or_same (lengths_row m sheet.lawful t sheet.rest sheet.stands u) (lengths_row m sheet.lawful t sheet.rest sheet.stands u')

        r22 : (not (locations_known t (layout_of t) l) || not (locations_known t (layout_of t) l')) ≡ (J.row22 m u || J.row22 m u')
        r22 = or_same (locations_row m sheet.lawful t sheet.rest sheet.stands u) (locations_row m sheet.lawful t sheet.rest sheet.stands u')

        r23 : (not (values_known t (layout_of t) v) || not (values_known t (layout_of t) v')) ≡ (J.row23 m u || J.row23 m u')
        r23 = or_same (values_row m sheet.lawful t sheet.rest sheet.stands u) (values_row m sheet.lawful t sheet.rest sheet.stands u')

        rows : (a : Bool) → (J.row21 m u || J.row21 m u') ≡ a → (b : Bool) → (J.row22 m u || J.row22 m u') ≡ b → (c : Bool) → (J.row23 m u || J.row23 m u') ≡ c
            → answer_of (then_rules (then_lists (lists_checked t (layout_of t) l v l' v') q) rules) ≡ list_rows m u u' last
        rows true x b y c z = unfold list_rows lists_checked then_lists then_rules answer_of in rw (r21 ∙ x, lists_checked, x)
        rows false x true y c z = unfold list_rows lists_checked then_lists then_rules answer_of in rw (r21 ∙ x, lists_checked, r22 ∙ y, lists_checked, x, y)
        rows false x false y true z = unfold list_rows lists_checked then_lists then_rules answer_of in rw (r21 ∙ x, lists_checked, r22 ∙ y, lists_checked, r23 ∙ z, lists_checked, x, y, z)
        rows false x false y false z =
            unfold list_rows lists_checked then_lists then_rules answer_of in
            rw (r21 ∙ x, lists_checked, r22 ∙ y, lists_checked, r23 ∙ z, lists_checked, x, y, z) (h (record { no_21 = x; no_22 = y; no_23 = z }))

  -- a call: rows 18 to 23, then what the rules answer where they all pass
  pub call_exact : (rules : Phase → Result Answer Row) (judge : Model → R.State → J.Answer) (last : Model → Phase → J.Answer)
      → ((m : Model) (q : Phase) → judge m (stands q l v) ≡ list_rows m (stands q l v) (stands Running l' v') (last m q))
      → ((m : Model) → Sheet t m → (q : Phase) → Pass m (stands q l v) (stands Running l' v') → answer_of (rules q) ≡ last m q)
      → answer_of (then_answer (answered (open_table t)) (then_rules (admitted_on t (layout_of t) phase l v l' v') rules)) ≡ J.judge_at t phase l v judge
  unfolding admitted_on answered then_answer then_phase then_rules answer_of J.judge_at
  call_exact rules judge last rows passed = go (open_table t) refl
    where
      go : (o : Opened) → open_table t ≡ o → answer_of (then_answer (answered (open_table t)) (then_rules (admitted_on t (layout_of t) phase l v l' v') rules)) ≡ J.judge_at t phase l v judge
      go (unopened row) e = rw (e, J.judge_at)
      go (opened m) e =
          rw (e, J.judge_at)
          (phase_read_lem phase
          (λ x o. answer_of (then_rules (then_phase x (lists_checked t (layout_of t) l v l' v')) rules) ≡ elim o [ none ↦ J.refused 20 | some p ↦ judge m (record { phase = p; locations = l; values = v }) ])
          (λ q. lists_exact m (sheet_of t m e) q rules (last m q) (passed m (sheet_of t m e) q) ∙ sym (rows m q))
          refl)

-- the environment judge
module _ (t : List ℕ) (phase : ℕ) (l : List ℕ) (v v' : List ℤ) where
  environment_ends : (a b : Bool) → answer_of (elim a [ false ↦ Ok No | true ↦ elim b [ true ↦ Ok Yes | false ↦ Ok No ] ]) ≡ cond (a && b) J.yes J.no
  unfolding answer_of
  environment_ends true true = refl
  environment_ends true false = refl
  environment_ends false b = refl

  environment_passed : (m : Model) → Sheet t m → (q : Phase) → Pass m (stands q l v) (stands Running l v') → answer_of (environment_in t (layout_of t) l v v' q) ≡ cond (J.environment_holds m (stands q l v) (stands Running l v')) J.yes J.no
  unfolding environment_by J.environment_holds
  environment_passed m sheet q p =
      let s = state_of q l v in
      let s' = state_of Running l v' in
      let old = shows_old m sheet.lawful q Running l v l v' p in
      let new = shows_new m sheet.lawful q Running l v l v' p in
      let e = settled_is m sheet.lawful t sheet.rest sheet.stands s s' (stands q l v) (stands Running l v') old new in
      let f = owned_keep_is m sheet.lawful t sheet.rest sheet.stands s s' (stands q l v) (stands Running l v') old new in
      environment_ends (settled_at t (layout_of t) s s') (owned_keep_at t (layout_of t) s s') ∙ rw (e, f)

  pub environment_exact : answer_of (environment_at t phase l v v') ≡ J.environment_answer t phase l v v'
  unfolding environment_at environment_on J.environment_answer
  environment_exact =
      call_exact t phase l v l v' (environment_in t (layout_of t) l v v') (λ m s. J.judge_environment m s v') (λ m q. cond (J.environment_holds m (stands q l v) (stands Running l v')) J.yes J.no)
      rows environment_passed
    where
      rows : (m : Model) (q : Phase) → J.judge_environment m (stands q l v) v' ≡ list_rows m (stands q l v) (stands Running l v') (cond (J.environment_holds m (stands q l v) (stands Running l v')) J.yes J.no)
      rows m q =
          unfold J.judge_environment list_rows phase_is J.row22 in
          let u = stands q l v in
          let u' = stands Running l v' in
          ap (λ (b : Bool). cond (J.row21 m u || J.row21 m u') (J.refused 21) (cond b (J.refused 22) (cond (J.row23 m u || J.row23 m u') (J.refused 23) (cond (J.environment_holds m u u') J.yes J.no))))
          (sym (or_self (J.row22 m u)))

  -- and over any
  module _ (x : Result ⊤ Row) (e : x ≡ answered (open_table t)) where
    pub environment_bad : (row : Row) → x ≡ Err row → answer_of (Err row) ≡ J.environment_answer t phase l v v'
    unfolding environment_at then_answer
    environment_bad row f =
        let out : Err row ≡ environment_at t phase l v v' = rw (sym e ∙ f) in
        ap answer_of out ∙ environment_exact

    pub environment_good : x ≡ Ok tt → (w : List ℕ) (y : Layout) → w ≡ t → y ≡ layout_of t → (r : Result Answer Row) → r ≡ environment_on w y phase l v v' → answer_of r ≡ J.environment_answer t phase l v v'
    unfolding environment_at then_answer
    environment_good f w y same h r g =
        let out : r ≡ environment_at t phase l v v' = rw (sym e ∙ f) (rw (same, h) at g) in
        ap answer_of out ∙ environment_exact

pub ruleset environment_laws = (environment_bad, environment_good)
