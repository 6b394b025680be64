-- The step judge: the code's answer over any table is the definitions'.
use Rattle.std.proofs.Common.{Result, Ok, Err}
use Rattle.std.specs.Prelude.{⊤}
use Rattle.model.specs.declared.Row.{Row}
use Rattle.std.proofs.Common.{◌≡◌, ℕ, Bool, true, false, cond, not, ◌&&◌, List, ℤ, sym, refl, ap, ◌∙◌}
use Rattle.model.specs.Model.{Model, in_set}
use Rattle.model.specs.Judge as J
use Rattle.model.specs.Table.{open_table}
use Rattle.table_check.specs.Check.{answered}
use Rattle.table_places.specs.declared.layout.Layout.{Layout}
use Rattle.table_places.specs.Layout.{layout_of}
use Rattle.table_places.specs.Own.{own_sets}
use Rattle.table_places.proofs.Opened.{Sheet}
use Rattle.judge_rows.specs.declared.Phase.{Phase}
use Rattle.judge_rows.specs.declared.Phase.TheVariants.{Running}
use Rattle.judge_call.specs.declared.Answer.{Answer}
use Rattle.judge_call.specs.declared.Answer.TheVariants.{Marked, No}
use Rattle.judge_call.specs.Answers.{answer_of}
use Rattle.judge_rows.specs.Phases.{phase_is}
use Rattle.judge_rows.specs.States.{state_of}
use Rattle.judge_rows.specs.RowTests.{action_known}
use Rattle.judge_settled.specs.Settled.{settled_at}
use Rattle.judge_call.specs.Taken.{taken_at, mark_at}
use Rattle.judge_call.specs.Calls.{then_answer, step_by, step_in, step_on, own_of, step_at}
use Rattle.judge_rows.proofs.RowLaws.{action_row}
use Rattle.judge_settled.proofs.SettledLaws.{settled_is}
use Rattle.judge_call.proofs.TakenLaws.{taken_is, mark_is}
use Rattle.judge_rows.proofs.StateLaws.{Pass, stands, shows_old, shows_new}
use Rattle.judge_call.proofs.CallLaws.{list_rows, call_exact}

module _ (t : List ℕ) (phase : ℕ) (l : List ℕ) (v : List ℤ) (a : ℕ) (l' : List ℕ) (v' : List ℤ) where
  abbrev last : Model → Phase → J.Answer
  last m q = cond (J.row24 m a) (J.refused 24) (cond (J.step_holds m (stands q l v) a (stands Running l' v')) (J.marked (in_set m a m.tree)) J.no)

  step_rows : (m : Model) (q : Phase) → J.judge_step m (stands q l v) a l' v' ≡ list_rows m (stands q l v) (stands Running l' v') (last m q)
  unfolding J.judge_to list_rows phase_is
  step_rows m q = refl

  ends : (s x k : Bool) → answer_of (elim s [ false ↦ Ok No | true ↦ elim x [ false ↦ Ok No | true ↦ Ok (Marked k) ] ]) ≡ cond (s && x) (J.marked k) J.no
  unfolding answer_of
  ends true true k = refl
  ends true false k = refl
  ends false x k = refl

  step_passed : (m : Model) → Sheet t m → (q : Phase) → Pass m (stands q l v) (stands Running l' v') → answer_of (step_in t (layout_of t) (own_of t) l v a l' v' q) ≡ last m q
  unfolding step_by J.step_holds answer_of
  step_passed m sheet q p = go (action_known (layout_of t) a) refl
    where
      known : not (action_known (layout_of t) a) ≡ J.row24 m a
      known = action_row m sheet.lawful t sheet.rest sheet.stands a

      go : (b : Bool) → action_known (layout_of t) a ≡ b → answer_of (step_in t (layout_of t) (own_of t) l v a l' v' q) ≡ last m q
      go false e =
          let refused : J.row24 m a ≡ true = sym known ∙ ap not e in
          rw (e, step_by, refused)
      go true e =
          let passes : J.row24 m a ≡ false = sym known ∙ ap not e in
          let u = stands q l v in
          let u' = stands Running l' v' in
          let f = settled_is m sheet.lawful t sheet.rest sheet.stands (state_of q l v) (state_of Running l' v') u u'
          (shows_old m sheet.lawful q Running l v l' v' p) (shows_new m sheet.lawful q Running l v l' v' p) in
          rw (e, step_by, passes)
          (ends (settled_at t (layout_of t) (state_of q l v) (state_of Running l' v')) (taken_at t (layout_of t) (own_of t) a (state_of q l v) (state_of Running l' v')) (mark_at t (layout_of t) (own_of t) a)
          ∙ rw (f, taken_is t m sheet q l v l' v' a p, mark_is t m sheet a))

  pub step_exact : answer_of (step_at t phase l v a l' v') ≡ J.step_answer t phase l v a l' v'
  unfolding step_at step_on J.step_answer
  step_exact = call_exact t phase l v l' v' (step_in t (layout_of t) (own_of t) l v a l' v') (λ m s. J.judge_step m s a l' v') last step_rows step_passed

  -- and over any
  module _ (x : Result ⊤ Row) (e : x ≡ answered (open_table t)) where
    pub step_bad : (row : Row) → x ≡ Err row → answer_of (Err row) ≡ J.step_answer t phase l v a l' v'
    unfolding step_at then_answer
    step_bad row f =
        let out : Err row ≡ step_at t phase l v a l' v' = rw (sym e ∙ f) in
        ap answer_of out ∙ step_exact

    pub step_good : x ≡ Ok tt → (w : List ℕ) (y : Layout) (own : List ℕ) → w ≡ t → y ≡ layout_of t → own ≡ own_sets t y.sets → (r : Result Answer Row) → r ≡ step_on w y own phase l v a l' v' → answer_of r ≡ J.step_answer t phase l v a l' v'
    unfolding step_at then_answer
    step_good f w y own same h i r g =
        let o : own ≡ own_of t = i ∙ ap (λ (z : Layout). own_sets t z.sets) h in
        let out : r ≡ step_at t phase l v a l' v' = rw (sym e ∙ f) (rw (same, h, o) at g) in
        ap answer_of out ∙ step_exact

pub ruleset step_laws = (step_bad, step_good)
